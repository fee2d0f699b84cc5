-- The ways out of the reading of a decimal, as laws: what the tests found in, the definition out.
-- Assumes nothing.
use Rattle.std.specs.Prelude.{Err, Ok}
use Prim.Native.Nat.{ℕ, ◌+◌, ◌^◌, ◌≤◌, ◌<◌}
use mathlib.Core.Path.{◌≡◌, refl}
use mathlib.Core.Bool.{Bool, true, false, cond}
use mathlib.Core.List.{List}
use lib.Dec.{leb}
use mir.Val.{bool_byte}
use lib.ListN.{length}
use lib.IntN.{ℤ}
use Rattle.base.specs.And.{◌and◌}
use Rattle.base.proofs.And.{and_l, and_r, ands}
use Rattle.base.proofs.Tests.{tests}
use Rattle.ints.specs.Ints.{signed}
use Rattle.digits.specs.Digits.{all_digits}
use Rattle.digits.specs.Zeros.{drop_leading_zeros, drop_trailing_zeros}
use Rattle.decimal.specs.Decimal.{is_decimal, in_millionths, is_rounded, amount_of, numeral_of}
use Rattle.digits.specs.declared.answers.NumberError.TheVariants as number_error

-- a test that holds counts for one
pub counted : (t : Bool) → bool_byte t ≡ cond t 1 0
counted true = refl
counted false = refl

-- digits before the point and digits after it
module _ (minus : Bool) (whole fraction : List ℕ) where
  pub amount_long_whole : 6 < length whole → Err number_error.TooLong ≡ amount_of minus whole fraction
  unfolding amount_of
  amount_long_whole h = simp (tests, ands)

  pub amount_long_fraction : length whole ≤ 6 → 18 < length fraction → Err number_error.TooLong ≡ amount_of minus whole fraction
  unfolding amount_of
  amount_long_fraction h k = simp (tests, ands)

  pub amount_large : length whole ≤ 6 → length fraction ≤ 18 → 10 ^ 12 ≤ in_millionths whole fraction → Err number_error.TooLong ≡ amount_of minus whole fraction
  unfolding amount_of
  amount_large h k l = simp (tests, ands)

  pub amount_value : (z : ℤ) (t : Bool) → length whole ≤ 6 → length fraction ≤ 18 → in_millionths whole fraction < 10 ^ 12 → z ≡ signed minus (in_millionths whole fraction)
      → t ≡ is_rounded fraction → Ok (record { amount = record { millionths = z }; rounded = t }) ≡ amount_of minus whole fraction
  unfolding amount_of
  amount_value z t h k l e r = simp (tests, ands) (λ i. Ok (record { amount = record { millionths = e i }; rounded = r i }))

  pub numeral_other : is_decimal whole fraction ≡ false → Err number_error.NotForm ≡ numeral_of minus whole fraction
  unfolding numeral_of
  numeral_other e = simp e

  -- both parts of a decimal are digits
  pub numeral_digits : is_decimal whole fraction ≡ true → (all_digits whole ≡ true) × (all_digits fraction ≡ true)
  unfolding is_decimal
  numeral_digits e =
      let f = and_l (all_digits whole and all_digits fraction) (leb 1 (length whole + length fraction)) e in
      (and_l (all_digits whole) (all_digits fraction) f, and_r (all_digits whole) (all_digits fraction) f)

  pub numeral_amount : is_decimal whole fraction ≡ true → amount_of minus (drop_leading_zeros whole) (drop_trailing_zeros fraction) ≡ numeral_of minus whole fraction
  unfolding numeral_of
  numeral_amount e = simp e
