-- The value of a coordinate in a format (02, [9]; decision 483): "the digits, under T first filled with zeros at the back to n+m digits,
-- times 10^(6-m)"; more than n+m digits are 5.
use Rattle.std.specs.Prelude.{ℕ, ◌*◌, ◌-◌, ◌^◌, Bool, cond, List, ◌++◌, leb, length, replicate, Err, Ok, Result, ℤ}
use Prim.Native.Char.{code}
use Rattle.std.proofs.Math.Seq.{slice}
use Rattle.ints.specs.Ints.{signed}
use Rattle.digits.specs.Digits.{is_number, value_of}
use Rattle.digits.specs.Sign.{has_minus, after_sign}
use Rattle.digits.specs.Coordinate.{coordinate_end}
use Rattle.digits.specs.declared.answers.Taken.{Taken}
use Rattle.formats.specs.Format.{in_force, places_of}
use Rattle.formats.specs.declared.Format.{Format}
use Rattle.digits.specs.declared.answers.NumberError.TheVariants as number_error
use Rattle.digits.specs.declared.answers.NumberError.{NumberError}

-- the digits, with the zeros that were left out at the back
unfoldable pub filled : Format → List ℕ → List ℕ
filled f s = cond f.trailing (s ++ replicate (places_of f - length s) (code "0")) s

-- in millionths
unfoldable pub value_in : Format → List ℕ → ℕ
value_in f s = value_of (filled f s) * 10 ^ (6 - f.decimals)

-- what stands after the sign
unfoldable pub whole_in : Format → Bool → List ℕ → Result ℤ NumberError
whole_in f minus s =
    cond (is_number s)
    (cond (leb (length s) (places_of f)) (Ok (signed minus (value_in f s))) (Err number_error.TooLong))
    (Err number_error.NotForm)

unfoldable pub coordinate_in : Format → List ℕ → Result ℤ NumberError
coordinate_in f s = whole_in (in_force f) (has_minus s) (after_sign s)

-- the coordinate that stands at a place of a text, and the place after it
unfoldable pub taken_in : Format → List ℕ → ℕ → Taken
taken_in f s at =
    let next : ℕ = coordinate_end s at in
    record { coordinate = coordinate_in f (slice at next s); next = next }
