-- The ways out of the readings of coordinates and numbers, as laws: what the tests found in, the definition out.
-- Assumes nothing.
use Rattle.std.proofs.Common.{◌≡◌, ℕ, ◌^◌, ◌<◌, ◌≤◌, Bool, true, false, List, length, ℤ, ap, ◌∙◌, Err, Ok}
use Rattle.base.proofs.Tests.{tests}
use Rattle.ints.specs.Ints.{signed}
use Rattle.digits.specs.Digits.{all_digits, is_number, value_of}
use Rattle.digits.specs.Zeros.{drop_leading_zeros}
use Rattle.digits.specs.Coordinate.{whole_of}
use Rattle.digits.specs.Natural.{natural_of}
use Rattle.digits.proofs.Strings.{value_bound, bound_at, number_digits}
use Rattle.digits.proofs.Zeros.{leading_digits, leading_value, leading_large}
use Rattle.digits.specs.declared.answers.NumberError.TheVariants as number_error

-- what stands after the sign of a coordinate
module _ (minus : Bool) (s : List ℕ) (limit : ℕ) where
  pub whole_other : is_number s ≡ false → Err number_error.NotForm ≡ whole_of minus s limit
  unfolding whole_of
  whole_other e = simp e

  pub whole_long : is_number s ≡ true → limit < length s → Err number_error.TooLong ≡ whole_of minus s limit
  unfolding whole_of
  whole_long e h = simp (e, tests)

  pub whole_value : (z : ℤ) → is_number s ≡ true → length s ≤ limit → z ≡ signed minus (value_of s) → Ok z ≡ whole_of minus s limit
  unfolding whole_of
  whole_value z e h v = simp (e, tests) (ap Ok v)

-- a number of digits alone
pub natural_other : (s : List ℕ) → is_number s ≡ false → Err number_error.NotForm ≡ natural_of s
unfolding natural_of
natural_other s e = simp e

-- a number s whose digits without leading zeros are d
module _ (s d : List ℕ) (q : d ≡ drop_leading_zeros s) (e : is_number s ≡ true) where
  -- its bytes are digits too
  pub natural_digits : all_digits d ≡ true
  natural_digits = rw q (leading_digits s (number_digits s e))

  pub natural_large : 12 < length d → Err number_error.TooLong ≡ natural_of s
  unfolding natural_of
  natural_large h =
      let k : 10 ^ 12 ≤ value_of s = leading_large 12 s (number_digits s e) (rw (← q) h) in
      simp (e, tests)

  pub natural_value : (v : ℕ) → length d ≤ 12 → v ≡ value_of d → Ok v ≡ natural_of s
  unfolding natural_of
  natural_value v h f =
      let g : value_of d ≡ value_of s = ap value_of q ∙ leading_value s in
      let k : value_of s < 10 ^ 12 = rw (← g) (bound_at (value_of d) (length d) 12 (value_bound d natural_digits) h) in
      simp (e, tests) (ap Ok (f ∙ g))
