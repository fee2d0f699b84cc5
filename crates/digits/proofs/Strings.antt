-- Laws of digit strings: one byte more, their bounds, and their value.
-- Assumes nothing.
use Rattle.std.proofs.Common.{◌≡◌, ℕ, ◌+◌, ◌-◌, ◌*◌, ◌%◌, ◌^◌, ◌<◌, ◌≤◌, Bool, true, false, ltb, leb, List, [], ◌∷◌, length, get_or, drop, sym, refl, ap, ◌∙◌, mul-le-mul_right, pow-suc, add-one, arith, ltb-false, ltb-true, le-leb, leb-true}
use mathlib.Core.Bool.{false≢true}
use native.Mathlib.Nat.{pow-le-pow_right}
use Rattle.std.specs.List.{list_all}
use borrow.Author.Tests.{lt-leb}
use Rattle.std.proofs.lemmas.Bool.Decides.{nat_tests}
use Rattle.base.specs.And.{◌and◌}
use Rattle.base.proofs.And.{and_l, and_r, and_i, and_is, true_and, false_and}
use Rattle.base.proofs.Lists.{drop_next}
use Rattle.digits.specs.Digits.{is_digit, Writes, all_digits, is_number, value_of}

-- a digit is '0' to '9'
pub digit_bounds : (b : ℕ) → is_digit b ≡ true → (48 ≤ b) × (b ≤ 57)
unfolding is_digit
digit_bounds b e = (leb-true _ _ (and_l (leb 48 b) (leb b 57) e), leb-true _ _ (and_r (leb 48 b) (leb b 57) e))

-- what is left of a byte when 48 is taken away, a word of 64 bits that wraps
module _ (b d : ℕ) (h : d < 2 ^ 64) (e : (d + 48) % 2 ^ 64 ≡ b) where
  wraps_digit : is_digit b ≡ ltb d 10
  unfolding is_digit
  wraps_digit = by_test (ltb d 10) (is_digit b) refl refl
    where
      by_test : (t u : Bool) → ltb d 10 ≡ t → is_digit b ≡ u → is_digit b ≡ ltb d 10
      by_test true true f g = g ∙ sym f
      by_test false false f g = g ∙ sym f
      by_test true false f g = let k = ltb-true d 10 f in absurd (false≢true (sym g ∙ and_i (leb 48 b) (leb b 57) (le-leb 48 b (omega arith)) (le-leb b 57 (omega arith))))
      by_test false true f g = absurd (omega (arith, ltb-false d 10 f, digit_bounds b g))

  pub wraps : Writes b d
  wraps = record { digit = wraps_digit; worth = λ (k : d < 10). omega arith }

-- a number's bytes are digits
pub number_digits : (s : List ℕ) → is_number s ≡ true → all_digits s ≡ true
unfolding is_number
number_digits s e = and_r (leb 1 (length s)) (all_digits s) e

-- what the library's `all` says of each byte
pub digits_all : (s : List ℕ) → list_all is_digit s ≡ all_digits s
unfolding all_digits
digits_all [] = refl
digits_all (b ∷ s) = and_is _ _ ∙ ap (λ t. is_digit b and t) (digits_all s)

-- a number has a byte, and then it is one where its bytes are digits
pub number_some : (s : List ℕ) → 1 ≤ length s → is_number s ≡ all_digits s
unfolding is_number
number_some s h = rw (le-leb 1 (length s) h, true_and)

pub number_none : (s : List ℕ) → length s < 1 → is_number s ≡ false
unfolding is_number
number_none s h = rw (lt-leb 1 (length s) h, false_and)

pub ruleset numbers = (number_some, number_none, nat_tests)

-- the first of digits, and the others
module _ (b : ℕ) (s : List ℕ) (e : all_digits (b ∷ s) ≡ true) where
  pub first_digit : is_digit b ≡ true
  unfolding all_digits
  first_digit = and_l (is_digit b) (all_digits s) e

  pub other_digits : all_digits s ≡ true
  unfolding all_digits
  other_digits = and_r (is_digit b) (all_digits s) e

-- digits are below the power of ten that as many places make
pub value_bound : (s : List ℕ) → all_digits s ≡ true → value_of s < 10 ^ length s
unfolding value_of
value_bound [] e = omega arith
value_bound (b ∷ s) e =
    let d = digit_bounds b (first_digit b s e) in
    let h = value_bound s (other_digits b s e) in
    let m : (b - 48) * 10 ^ length s ≤ 9 * 10 ^ length s = mul-le-mul_right (10 ^ length s) (omega (arith, d)) in
    rw pow-suc (omega arith)

-- at a place
pub digit_at : (s : List ℕ) (i : ℕ) (h : i < length s) → all_digits (drop i s) ≡ true → (48 ≤ get_or s i 0) × (get_or s i 0 ≤ 57)
digit_at s i h e = digit_bounds _ (first_digit (get_or s i 0) (drop (i + 1) s) (rw (drop_next s i h) at e))

-- one digit more is one power more
pub bound_on : (v d i : ℕ) → v < 10 ^ i → d ≤ 9 → v * 10 + d < 10 ^ (i + 1)
bound_on v d i h l = rw (add-one, pow-suc) (omega arith)

-- what is below a power is below a higher one
pub bound_at : (v i n : ℕ) → v < 10 ^ i → i ≤ n → v < 10 ^ n
bound_at v i n h l = omega (arith, pow-le-pow_right {n = 10} (omega arith) l)
