-- Numbers of digits alone: SR's n, the number of an aperture, `$n` (01, Form and Macros). Any number of digits may be written
-- (decisions 24, 37, 44, 63), so the answer says where the value is 10 ^ 12 or more, which is past every bound of 01.
use Rattle.std.specs.Prelude.{ℕ, ◌^◌, cond, List, nat_le, Err, Ok, Result}
use Rattle.digits.specs.Digits.{is_number, value_of}
use Rattle.digits.specs.declared.answers.NumberError.TheVariants as number_error
use Rattle.digits.specs.declared.answers.NumberError.{NumberError}

unfoldable pub natural_of : List ℕ → Result ℕ NumberError
natural_of s =
    cond (is_number s)
    (cond (nat_le (10 ^ 12) (value_of s)) (Err number_error.TooLong) (Ok (value_of s)))
    (Err number_error.NotForm)
