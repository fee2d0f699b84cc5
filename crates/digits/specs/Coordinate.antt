-- 01, Form: "A coordinate has an optional sign and 1 to n+6 digits as written (12 before FS)". Its digits are counted as
-- written, the sign not (decision 41), and no digit, or anything but digits, is not its form (decision 29).
use Rattle.std.specs.Prelude.{ℕ, Bool, cond, List, length, nat_le, Err, Ok, Result, ℤ}
use Rattle.std.proofs.Math.Seq.{slice}
use Rattle.ints.specs.Ints.{signed}
use Rattle.digits.specs.Digits.{past_digits, is_number, value_of}
use Rattle.digits.specs.Sign.{has_minus, after_sign, past_sign}
use Rattle.digits.specs.declared.answers.Taken.{Taken}
use Rattle.digits.specs.declared.answers.NumberError.TheVariants as number_error
use Rattle.digits.specs.declared.answers.NumberError.{NumberError}

-- what stands after the sign
unfoldable pub whole_of : Bool → List ℕ → ℕ → Result ℤ NumberError
whole_of minus s limit =
    cond (is_number s)
    (cond (nat_le (length s) limit) (Ok (signed minus (value_of s))) (Err number_error.TooLong))
    (Err number_error.NotForm)

unfoldable pub coordinate_of : List ℕ → ℕ → Result ℤ NumberError
coordinate_of s limit = whole_of (has_minus s) (after_sign s) limit

-- a coordinate ends after its sign and all digits that follow it
unfoldable pub coordinate_end : List ℕ → ℕ → ℕ
coordinate_end s at = past_digits s (past_sign s at)

-- the coordinate that stands at a place of a text, and the place after it
unfoldable pub coordinate_at : List ℕ → ℕ → ℕ → Taken
coordinate_at s at limit =
    let next : ℕ = coordinate_end s at in
    record { coordinate = coordinate_of (slice at next s) limit; next = next }
