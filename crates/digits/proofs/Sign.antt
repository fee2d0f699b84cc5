-- The sign by the first byte, 0 where there is none; and at a place.
-- Assumes nothing.
use Rattle.std.proofs.Common.{◌≡◌, ℕ, ◌+◌, ◌-◌, ◌<◌, ◌≤◌, Bool, true, false, eqb, leb, List, [], ◌∷◌, length, get_or, take, drop, sym, refl, ◌∙◌, arith, ne_eqb, leb-false, leb-true}
use mathlib.Core.Bool.{false≢true}
use lib.ListN.{get_or-eq_default}
use Rattle.base.proofs.Lists.{rest_whole}
use Rattle.std.proofs.lemmas.Bool.Decides.{nat_tests}
use Rattle.base.specs.Or.{◌or◌}
use Rattle.digits.specs.Sign.{is_sign, has_minus, after_sign, past_sign}

pub minus_first : (s : List ℕ) → has_minus s ≡ eqb (get_or s 0 0) 45
unfolding has_minus
minus_first [] = refl
minus_first (b ∷ s) = refl

pub minus_absent : (s : List ℕ) → length s < 1 → has_minus s ≡ false
unfolding has_minus
minus_absent [] h = refl
minus_absent (b ∷ s) h = absurd (omega arith)

module _ (s : List ℕ) where
  pub plus_there : get_or s 0 0 ≡ 43 → after_sign s ≡ take (length s - 1) (drop 1 s)
  unfolding after_sign ◌or◌
  plus_there e = rw rest_whole (by_first s e)
    where
      by_first : (s : List ℕ) → get_or s 0 0 ≡ 43 → after_sign s ≡ drop 1 s
      by_first [] f = refl
      by_first (b ∷ r) f = rw f

  pub minus_there : get_or s 0 0 ≡ 45 → after_sign s ≡ take (length s - 1) (drop 1 s)
  unfolding after_sign ◌or◌
  minus_there e = rw rest_whole (by_first s e)
    where
      by_first : (s : List ℕ) → get_or s 0 0 ≡ 45 → after_sign s ≡ drop 1 s
      by_first [] f = refl
      by_first (b ∷ r) f = rw f

  pub sign_none : length s < 1 → after_sign s ≡ s
  unfolding after_sign
  sign_none h = by_first s h
    where
      by_first : (s : List ℕ) → length s < 1 → after_sign s ≡ s
      by_first [] g = refl
      by_first (b ∷ r) g = absurd (omega arith)

  pub sign_absent : (get_or s 0 0 ≡ 43 → ⊥) → (get_or s 0 0 ≡ 45 → ⊥) → after_sign s ≡ s
  unfolding after_sign ◌or◌
  sign_absent f g = by_first s f g
    where
      by_first : (s : List ℕ) → (get_or s 0 0 ≡ 43 → ⊥) → (get_or s 0 0 ≡ 45 → ⊥) → after_sign s ≡ s
      by_first [] f g = refl
      by_first (b ∷ r) f g = rw (ne_eqb b 43 f, ne_eqb b 45 g)

pub ruleset signs = (minus_first, minus_absent, plus_there, minus_there, sign_none, sign_absent, nat_tests)

-- none stands past the end
module _ (s : List ℕ) (at : ℕ) where
  pub sign_past : length s ≤ at → is_sign (get_or s at 0) ≡ false
  unfolding ◌or◌
  sign_past h = rw (get_or-eq_default s 0 h)

  pub sign_inside : is_sign (get_or s at 0) ≡ true → at < length s
  sign_inside e = by_test (leb (length s) at) refl
    where
      by_test : (t : Bool) → leb (length s) at ≡ t → at < length s
      by_test true f = absurd (false≢true (sym (sign_past (leb-true (length s) at f)) ∙ e))
      by_test false f = leb-false (length s) at f

  -- the place after it
  pub sign_passed : is_sign (get_or s at 0) ≡ true → past_sign s at ≡ at + 1
  unfolding past_sign
  sign_passed e = rw e

  pub sign_missing : is_sign (get_or s at 0) ≡ false → past_sign s at ≡ at
  unfolding past_sign
  sign_missing e = rw e

  pub past_sign_to : at ≤ length s → past_sign s at ≤ length s
  past_sign_to h = by_test (is_sign (get_or s at 0)) refl
    where
      by_test : (t : Bool) → is_sign (get_or s at 0) ≡ t → past_sign s at ≤ length s
      by_test true e = rw (sign_passed e) (omega (arith, sign_inside e))
      by_test false e = rw (sign_missing e) h

  -- by the byte there, or by there being none
  pub passes_plus : get_or s at 0 ≡ 43 → past_sign s at ≡ at + 1
  unfolding past_sign ◌or◌
  passes_plus e = rw e

  pub passes_minus : get_or s at 0 ≡ 45 → past_sign s at ≡ at + 1
  unfolding past_sign ◌or◌
  passes_minus e = rw e

  pub passes_none : (get_or s at 0 ≡ 43 → ⊥) → (get_or s at 0 ≡ 45 → ⊥) → past_sign s at ≡ at
  unfolding past_sign ◌or◌
  passes_none f g = rw (ne_eqb (get_or s at 0) 43 f, ne_eqb (get_or s at 0) 45 g)

  pub passes_end : length s ≤ at → past_sign s at ≡ at
  passes_end h = sign_missing (sign_past h)

pub ruleset places = (passes_plus, passes_minus, passes_none, passes_end, nat_tests)
