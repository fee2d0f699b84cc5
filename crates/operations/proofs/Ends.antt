-- A text compared with three bytes that it may end in, byte by byte; and a byte other than 0, which stands inside its text.
-- Assumes nothing.
use Prim.Native.Nat.{ℕ, ◌+◌, ◌-◌, ◌<◌, ◌≤◌}
use mathlib.Core.Path.{◌≡◌, refl, ap}
use mathlib.Core.Bool.{Bool, true, false}
use mathlib.Core.List.{List, [], ◌∷◌}
use native.Mathlib.Omega.{arith}
use lib.Dec.{leb, eqb}
use lib.ListN.{length, drop, get_or, length-drop, drop_of_length-le, get_or-eq_default}
use borrow.Author.Tests.{leb-true, leb-false}
use Rattle.base.specs.And.{◌and◌}
use Rattle.base.specs.Bytes.{same_bytes}
use Rattle.base.proofs.Lists.{drop_next, same_is}

same_three : (a b c x y z : ℕ) → same_bytes (a ∷ b ∷ c ∷ []) (x ∷ y ∷ z ∷ []) ≡ (eqb a x and eqb b y and eqb c z)
unfolding same_bytes ◌and◌
same_three a b c x y z = by_tests_lem (eqb a x) (eqb b y) (eqb c z)
  where
    by_tests_lem : (t u v : Bool) → elim t [ true ↦ elim u [ true ↦ elim v [ true ↦ true | false ↦ false ] | false ↦ false ] | false ↦ false ] ≡ (t and u and v)
    by_tests_lem true true true = refl
    by_tests_lem true true false = refl
    by_tests_lem true false v = refl
    by_tests_lem false u v = refl

module _ (s : List ℕ) (x y z : ℕ) where
  pub last_three : 3 ≤ length s → same_bytes (drop (length s - 3) s) (x ∷ y ∷ z ∷ []) ≡
      (eqb (get_or s (length s - 3) 0) x and eqb (get_or s (length s - 3 + 1) 0) y and eqb (get_or s (length s - 3 + 2) 0) z)
  last_three h = go (length s - 3) (omega arith)
    where
      go : (at : ℕ) → at + 3 ≡ length s → same_bytes (drop at s) (x ∷ y ∷ z ∷ []) ≡ (eqb (get_or s at 0) x and eqb (get_or s (at + 1) 0) y and eqb (get_or s (at + 2) 0) z)
      go at e =
          let two : at + 1 + 1 ≡ at + 2 = omega arith in
          let over : length s ≤ at + 2 + 1 = omega arith in
          rw (drop_next s at (omega arith), drop_next s (at + 1) (omega arith), two, drop_next s (at + 2) (omega arith), drop_of_length-le s over) (same_three _ _ _ x y z)

  pub too_short : length s < 3 → same_bytes (drop (length s - 3) s) (x ∷ y ∷ z ∷ []) ≡ false
  too_short h = by_test (same_bytes (drop (length s - 3) s) (x ∷ y ∷ z ∷ [])) refl
    where
      by_test : (t : Bool) → same_bytes (drop (length s - 3) s) (x ∷ y ∷ z ∷ []) ≡ t → same_bytes (drop (length s - 3) s) (x ∷ y ∷ z ∷ []) ≡ false
      by_test false e = e
      by_test true e = absurd (omega (arith, length-drop (length s - 3) s, ap length (same_is _ _ e)))

-- past the end 0 is read
pub inside : (s : List ℕ) (at : ℕ) → 1 ≤ get_or s at 0 → at < length s
inside s at h = by_test (leb (length s) at) refl
  where
    by_test : (t : Bool) → leb (length s) at ≡ t → at < length s
    by_test true e = absurd (omega (arith, get_or-eq_default s 0 (leb-true (length s) at e)))
    by_test false e = leb-false (length s) at e
