-- How large what was read can be, for whoever computes with it: a rounded size of 10 ^ 12 millionths or more is refused.
-- Assumes nothing.
use Rattle.std.specs.Prelude.{Err, Ok, Result}
use Prim.Native.Nat.{ℕ, ◌^◌, ◌<◌}
use mathlib.Core.Path.{◌≡◌, refl, subst}
use mathlib.Core.Bool.{Bool, true, false, cond}
use mathlib.Core.List.{List}
use lib.Dec.{leb}
use lib.IntN.{nat_abs}
use lib.ListN.{length}
use borrow.Author.Tests.{leb-false}
use Rattle.base.specs.And.{◌and◌}
use Rattle.ints.specs.Ints.{signed}
use Rattle.ints.proofs.Bounded.{abs_signed}
use Rattle.digits.specs.Sign.{has_minus, after_sign}
use Rattle.digits.specs.Zeros.{drop_leading_zeros, drop_trailing_zeros}
use Rattle.decimal.specs.Decimal.{is_decimal, in_millionths, is_rounded, amount_of, numeral_of, decimal_of}
use Rattle.decimal.specs.Point.{before_point, after_point}
use Rattle.decimal.specs.declared.answers.Amount.{Amount}
use Rattle.digits.specs.declared.answers.NumberError.TheVariants as number_error
use Rattle.digits.specs.declared.answers.NumberError.{NumberError}
use Rattle.decimal.specs.declared.answers.Decimal.{Decimal}

-- a value, if it is one, is below 10 ^ 12 in size
abbrev Small : Result Decimal NumberError → Type 0
Small (Err number_error.NotForm) = Unit
Small (Err number_error.TooLong) = Unit
Small (Ok d) = nat_abs d.amount.millionths < 10 ^ 12

amount_small : (minus : Bool) (whole fraction : List ℕ) → Small (amount_of minus whole fraction)
unfolding amount_of
amount_small minus whole fraction = by_length (leb (length whole) 6 and leb (length fraction) 18)
  where
    by_size : (t : Bool) → leb (10 ^ 12) (in_millionths whole fraction) ≡ t → Small (cond t (Err number_error.TooLong) (Ok (record { amount = record { millionths = signed minus (in_millionths whole fraction) }; rounded = is_rounded fraction })))
    by_size true e = tt
    by_size false e = rw (abs_signed minus (in_millionths whole fraction)) (leb-false (10 ^ 12) (in_millionths whole fraction) e)

    by_length : (t : Bool) →
        Small (cond t (cond (leb (10 ^ 12) (in_millionths whole fraction)) (Err number_error.TooLong) (Ok (record { amount = record { millionths = signed minus (in_millionths whole fraction) }; rounded = is_rounded fraction }))) (Err number_error.TooLong))
    by_length true = by_size (leb (10 ^ 12) (in_millionths whole fraction)) refl
    by_length false = tt

numeral_small : (minus : Bool) (whole fraction : List ℕ) → Small (numeral_of minus whole fraction)
unfolding numeral_of
numeral_small minus whole fraction = by_form (is_decimal whole fraction)
  where
    by_form : (t : Bool) → Small (cond t (amount_of minus (drop_leading_zeros whole) (drop_trailing_zeros fraction)) (Err number_error.NotForm))
    by_form true = amount_small minus _ _
    by_form false = tt

pub decimal_size : (s : List ℕ) (a : Amount) (rounded : Bool) → decimal_of s ≡ Ok (record { amount = a; rounded = rounded }) → nat_abs a.millionths < 10 ^ 12
unfolding decimal_of
decimal_size s a rounded e = subst Small e (numeral_small (has_minus s) (before_point (after_sign s)) (after_point (after_sign s)))
