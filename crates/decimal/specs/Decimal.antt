-- 01, Form, as request [1] of 02 has it: "Decimal: optional sign, digits with an optional point, at least one digit", "up to 18 fractional
-- digits after dropping trailing zeros, rounded to the nearest millionth, halves away from zero"; "5 now means more than 18 fractional
-- digits, more than 6 integer digits, or a rounded size of 10^12 millionths or more".
use Rattle.std.specs.Prelude.{ℕ, ◌+◌, ◌*◌, ◌/◌, ◌^◌, Bool, cond, List, leb, length, Err, Ok, Result}
use Rattle.base.specs.And.{◌and◌}
use Rattle.ints.specs.Ints.{signed}
use Rattle.digits.specs.Digits.{all_digits, value_of}
use Rattle.digits.specs.Sign.{has_minus, after_sign}
use Rattle.digits.specs.Zeros.{drop_leading_zeros, drop_trailing_zeros}
use Rattle.decimal.specs.Point.{before_point, after_point}
use Rattle.digits.specs.declared.answers.NumberError.TheVariants as number_error
use Rattle.digits.specs.declared.answers.NumberError.{NumberError}
use Rattle.decimal.specs.declared.answers.Decimal.{Decimal}

-- digits before and after a point, one at least
unfoldable pub is_decimal : List ℕ → List ℕ → Bool
is_decimal whole fraction = all_digits whole and all_digits fraction and leb 1 (length whole + length fraction)

-- a / b to the nearest whole number, halves up
unfoldable pub nearest : ℕ → ℕ → ℕ
nearest a b = (2 * a + b) / (2 * b)

-- the size: with n digits after the point, a million times what all digits write, over ten to the n; the sign comes after the rounding,
-- so that halves go away from zero
unfoldable pub in_millionths : List ℕ → List ℕ → ℕ
in_millionths whole fraction =
    let n : ℕ = length fraction in
    nearest ((value_of whole * 10 ^ n + value_of fraction) * 10 ^ 6) (10 ^ n)

-- a seventh digit after the point: no trailing zero, so that what is written is no whole number of millionths (a law: proofs/Exact)
unfoldable pub is_rounded : List ℕ → Bool
is_rounded fraction = leb 7 (length fraction)

-- the digits that count
unfoldable pub amount_of : Bool → List ℕ → List ℕ → Result Decimal NumberError
amount_of minus whole fraction =
    cond (leb (length whole) 6 and leb (length fraction) 18)
    (cond (leb (10 ^ 12) (in_millionths whole fraction))
    (Err number_error.TooLong)
    (Ok (record { amount = record { millionths = signed minus (in_millionths whole fraction) }; rounded = is_rounded fraction })))
    (Err number_error.TooLong)

-- what stands before the point and what stands after it
unfoldable pub numeral_of : Bool → List ℕ → List ℕ → Result Decimal NumberError
numeral_of minus whole fraction =
    cond (is_decimal whole fraction)
    (amount_of minus (drop_leading_zeros whole) (drop_trailing_zeros fraction))
    (Err number_error.NotForm)

unfoldable pub decimal_of : List ℕ → Result Decimal NumberError
decimal_of s = numeral_of (has_minus s) (before_point (after_sign s)) (after_point (after_sign s))
