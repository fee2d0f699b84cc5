-- The coordinates of an operation (01, Form; decisions 23 to 29 and 41), by the format that FS gave (02, [9]; decision 483).
use Rattle.std.specs.Prelude.{ℕ, ◌+◌, Bool, true, false, cond, List, ltb, eqb, pos, length, get_or, Err, Ok, Result, ℤ}
use Prim.Native.Char.{code}
use Rattle.digits.specs.Sign.{is_sign}
use Rattle.digits.specs.declared.answers.Taken.{Taken}
use Rattle.formats.specs.Values.{taken_in}
use Rattle.formats.specs.declared.Format.{Format}
use Rattle.operations.specs.declared.Field.{Field}
use Rattle.operations.specs.declared.TakenField.{TakenField}
use Rattle.operations.specs.declared.Fields.{Fields}
use Rattle.digits.specs.declared.answers.NumberError.TheVariants as number_error
use Rattle.digits.specs.declared.answers.NumberError.{NumberError}

-- a coordinate that is there, with a sign or without
unfoldable pub given : Bool → Result ℤ NumberError → Field
given sign (Err number_error.NotForm) = record { given = true; formless = true; long = false; signed = sign; value = pos 0 }
given sign (Err number_error.TooLong) = record { given = true; formless = false; long = true; signed = sign; value = pos 0 }
given sign (Ok v) = record { given = true; formless = false; long = false; signed = sign; value = v }

unfoldable pub missing : Field
missing = record { given = false; formless = false; long = false; signed = false; value = pos 0 }

-- the field of a letter at a place: the letter, then a coordinate; and the place after it
unfoldable pub field_at : Format → ℕ → List ℕ → ℕ → TakenField
field_at format letter s at =
    let taken : Taken = taken_in format s (at + 1) in
    cond (eqb (get_or s at 0) letter)
    (record { field = given (is_sign (get_or s (at + 1) 0)) taken.coordinate; next = taken.next })
    (record { field = missing; next = at })

-- X, Y, I and J, in that order, and nothing else
unfoldable pub fields_in : Format → List ℕ → Fields
fields_in format s =
    let x : TakenField = field_at format (code "X") s 0 in
    let y : TakenField = field_at format (code "Y") s x.next in
    let i : TakenField = field_at format (code "I") s y.next in
    let j : TakenField = field_at format (code "J") s i.next in
    record { x = x.field; y = y.field; i = i.field; j = j.field; left = ltb j.next (length s) }
