-- Laws of dropped zeros: they leave digits digits, and leading ones do not count.
-- Assumes nothing.
use Rattle.std.proofs.Common.{◌≡◌, ℕ, ◌+◌, ◌-◌, ◌*◌, ◌^◌, ◌<◌, ◌≤◌, Bool, true, false, cond, eqb, List, [], ◌∷◌, length, get_or, take, drop, sym, ap, ◌∙◌, refl, mul-le-mul_right, arith, eq-eqb, ne_eqb, eqb-true}
use native.Mathlib.Nat.{pow-le-pow_right}
use lib.Seq.{take-length}
use Rattle.base.proofs.Lists.{rest_whole}
use Rattle.base.proofs.Trimmed.{leading_goes, leading_stops, leading_ends, trailing_goes, trailing_stops, trailing_none}
use borrow.Author.Tests.{eqb-false}
use Rattle.base.proofs.And.{and_i}
use Rattle.digits.specs.Digits.{is_digit, all_digits, value_of}
use Rattle.base.specs.Trimmed.{drop_leading, kept_before, drop_trailing}
use Rattle.digits.specs.Zeros.{drop_leading_zeros, drop_trailing_zeros}
use Rattle.digits.proofs.Strings.{digit_bounds, first_digit, other_digits}

-- ---- leading zeros

-- what is left of digits are digits, of the same value
pub leading_digits : (s : List ℕ) → all_digits s ≡ true → all_digits (drop_leading_zeros s) ≡ true
unfolding drop_leading
leading_digits [] e = e
leading_digits (b ∷ s) e = by_first (eqb b 48) (leading_digits s (other_digits b s e))
  where
    by_first : (t : Bool) → all_digits (drop_leading_zeros s) ≡ true → all_digits (elim t [ true ↦ drop_leading_zeros s | false ↦ b ∷ s ]) ≡ true
    by_first true h = h
    by_first false h = e

pub leading_value : (s : List ℕ) → value_of (drop_leading_zeros s) ≡ value_of s
unfolding drop_leading value_of
leading_value [] = refl
leading_value (b ∷ s) = by_first (eqb b 48) refl (leading_value s)
  where
    by_first : (t : Bool) → eqb b 48 ≡ t → value_of (drop_leading_zeros s) ≡ value_of s
        → value_of (elim t [ true ↦ drop_leading_zeros s | false ↦ b ∷ s ]) ≡ (b - 48) * 10 ^ length s + value_of s
    by_first true e h = rw (eqb-true b 48 e) (omega arith)
    by_first false e h = refl

-- more than n digits, the first no zero, are ten to the n at least
pub leading_large : (n : ℕ) (s : List ℕ) → all_digits s ≡ true → n < length (drop_leading_zeros s) → 10 ^ n ≤ value_of s
unfolding drop_leading value_of
leading_large n [] e h = omega arith
leading_large n (b ∷ s) e h = by_first (eqb b 48) refl (leading_large n s (other_digits b s e)) h
  where
    above : 48 ≤ b → (b ≡ 48 → ⊥) → 1 ≤ b - 48
    above h k = omega arith

    by_first : (t : Bool) → eqb b 48 ≡ t → (n < length (drop_leading_zeros s) → 10 ^ n ≤ value_of s)
        → n < length {A = ℕ} (elim t [ true ↦ drop_leading_zeros s | false ↦ b ∷ s ]) → 10 ^ n ≤ (b - 48) * 10 ^ length s + value_of s
    by_first true f k l = omega (arith, k l)
    by_first false f k l =
        let q : 1 ≤ b - 48 = above (digit_bounds b (first_digit b s e)).0 (eqb-false b 48 f) in
        let p : 10 ^ n ≤ 10 ^ length s = pow-le-pow_right {n = 10} (omega arith) (omega arith) in
        let m : 1 * 10 ^ length s ≤ (b - 48) * 10 ^ length s = mul-le-mul_right (10 ^ length s) q in
        omega arith

-- ---- trailing zeros

-- what is left of digits are digits
before_digits : (b : ℕ) (s : List ℕ) → is_digit b ≡ true → all_digits s ≡ true → all_digits (kept_before (λ b. eqb b 48) b s) ≡ true
unfolding kept_before all_digits
before_digits b [] e f = by_first (eqb b 48)
  where
    by_first : (t : Bool) → all_digits (cond t [] (b ∷ [])) ≡ true
    by_first true = refl
    by_first false = and_i _ _ e f
before_digits b (c ∷ s) e f = and_i _ _ e f

pub trailing_digits : (s : List ℕ) → all_digits s ≡ true → all_digits (drop_trailing_zeros s) ≡ true
unfolding drop_trailing
trailing_digits [] e = e
trailing_digits (b ∷ s) e = before_digits b (drop_trailing_zeros s) (first_digit b s e) (trailing_digits s (other_digits b s e))

-- ---- byte by byte: a zero at an end makes no difference, another byte ends them, and so does the end
module _ (s : List ℕ) where
  pub first_goes : 1 ≤ length s → get_or s 0 0 ≡ 48 → drop_leading_zeros (take (length s - 1) (drop 1 s)) ≡ drop_leading_zeros s
  first_goes h e = rw rest_whole (sym (leading_goes (λ b. eqb b 48) s 0 (omega arith) (eq-eqb _ 48 e)))

  pub first_stays : 1 ≤ length s → (get_or s 0 0 ≡ 48 → ⊥) → drop_leading_zeros s ≡ s
  first_stays h e = leading_stops (λ b. eqb b 48) s 0 (omega arith) (ne_eqb _ 48 e)

  pub first_none : length s < 1 → drop_leading_zeros s ≡ s
  first_none h = leading_ends (λ b. eqb b 48) s 0 (omega arith)

  pub last_goes : 1 ≤ length s → get_or s (length s - 1) 0 ≡ 48 → drop_trailing_zeros (take (length s - 1) s) ≡ drop_trailing_zeros s
  last_goes h e = sym (trailing_goes (λ b. eqb b 48) s (length s) (omega arith) (omega arith) (eq-eqb _ 48 e)) ∙ ap drop_trailing_zeros (take-length s)

  pub last_stays : 1 ≤ length s → (get_or s (length s - 1) 0 ≡ 48 → ⊥) → drop_trailing_zeros s ≡ s
  last_stays h e =
      ap drop_trailing_zeros (sym (take-length s)) ∙ trailing_stops (λ b. eqb b 48) s (length s) (omega arith) (omega arith) (ne_eqb _ 48 e) ∙ take-length s

  pub last_none : length s < 1 → drop_trailing_zeros s ≡ s
  last_none h = ap drop_trailing_zeros (sym (take-length s)) ∙ trailing_none (λ b. eqb b 48) s (length s) (omega arith) ∙ take-length s

pub ruleset trimmed = (first_goes, first_stays, first_none, last_goes, last_stays, last_none)
