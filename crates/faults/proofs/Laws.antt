-- What the sooner of two faults is, and the order of all rules, computed.
-- Assumes nothing.
use Prim.Native.Nat.{ℕ, ◌<◌}
use mathlib.Core.Path.{◌≡◌, refl, ap, ◌∙◌}
use mathlib.Core.Bool.{Bool, true, false, not, false≢true}
use mathlib.Core.List.{List, [], ◌∷◌}
use mathlib.Core.Logic.{◌⊎◌, inl, inr}
use native.Mathlib.Omega.{arith}
use lib.Dec.{ltb, eqb}
use borrow.Author.Tests.{eqb-true, eqb-false, ltb-true}
use Rattle.base.specs.And.{◌and◌}
use Rattle.base.specs.Or.{◌or◌}
use Rattle.base.specs.Choose.{pick}
use Rattle.faults.specs.Order.{rank_of, tested_before, sooner}

-- the rule after which another is tested is tested by its number
rank_settled : (n : ℕ) → rank_of (rank_of n) ≡ rank_of n
unfolding rank_of pick
rank_settled n = by_tests_lem (eqb n 30) (eqb n 29) (eqb n 31) refl refl refl
  where
    by_tests_lem : (t u v : Bool) → eqb n 30 ≡ t → eqb n 29 ≡ u → eqb n 31 ≡ v → rank_of (pick t 4 (pick u 11 (pick v 12 n))) ≡ pick t 4 (pick u 11 (pick v 12 n))
    by_tests_lem true u v e f g = refl
    by_tests_lem false true v e f g = refl
    by_tests_lem false false true e f g = refl
    by_tests_lem false false false e f g = rw (e, f, g)

-- what a test before says
module _ (a b : ℕ) where
  before_is : tested_before a b ≡ true → (rank_of a < rank_of b) ⊎ ((a ≡ rank_of b) × (b ≡ rank_of b → ⊥))
  unfolding tested_before ◌or◌ ◌and◌
  before_is h = by_tests_lem (ltb (rank_of a) (rank_of b)) (eqb a (rank_of b)) (eqb b (rank_of b)) refl refl refl h
    where
      by_tests_lem : (t u v : Bool) → ltb (rank_of a) (rank_of b) ≡ t → eqb a (rank_of b) ≡ u → eqb b (rank_of b) ≡ v → (t or (u and not v)) ≡ true
          → (rank_of a < rank_of b) ⊎ ((a ≡ rank_of b) × (b ≡ rank_of b → ⊥))
      by_tests_lem true u v e f g k = inl (ltb-true _ _ e)
      by_tests_lem false true false e f g k = inr (eqb-true _ _ f, eqb-false _ _ g)
      by_tests_lem false true true e f g k = absurd (false≢true k)
      by_tests_lem false false v e f g k = absurd (false≢true k)

  before_not : ((rank_of a < rank_of b) ⊎ ((a ≡ rank_of b) × (b ≡ rank_of b → ⊥)) → ⊥) → tested_before a b ≡ false
  before_not h = by_test (tested_before a b) refl
    where
      by_test : (t : Bool) → tested_before a b ≡ t → t ≡ false
      by_test true e = absurd (h (before_is e))
      by_test false e = refl

-- no rule is tested before itself, and of two not each before the other
never_itself : (a : ℕ) → tested_before a a ≡ false
never_itself a = before_not a a by_way
  where
    by_way : (rank_of a < rank_of a) ⊎ ((a ≡ rank_of a) × (a ≡ rank_of a → ⊥)) → ⊥
    by_way (inl h) = omega arith
    by_way (inr h) = h.1 h.0

one_way : (a b : ℕ) → tested_before b a ≡ true → tested_before a b ≡ false
one_way a b h = before_not a b (by_ways (before_is b a h))
  where
    by_ways : (rank_of b < rank_of a) ⊎ ((b ≡ rank_of a) × (a ≡ rank_of a → ⊥)) → (rank_of a < rank_of b) ⊎ ((a ≡ rank_of b) × (b ≡ rank_of b → ⊥)) → ⊥
    by_ways (inl p) (inl q) = omega arith
    by_ways (inl p) (inr q) = let e : rank_of a ≡ rank_of b = ap rank_of q.0 ∙ rank_settled b in omega arith
    by_ways (inr p) (inl q) = let e : rank_of b ≡ rank_of a = ap rank_of p.0 ∙ rank_settled a in omega arith
    by_ways (inr p) (inr q) = let e : rank_of b ≡ rank_of a = ap rank_of p.0 ∙ rank_settled a in p.1 (q.0 ∙ e)

-- it is one of the two; there is none only where there is neither; and no fault of the two is tested before it
pub record Sooner (a b r : ℕ) : Type 0 where
  pub one : (r ≡ a) ⊎ (r ≡ b)
  pub none : r ≡ 0 → (a ≡ 0) × (b ≡ 0)
  pub first : (a ≡ 0 → ⊥) → tested_before a r ≡ false
  pub other : (b ≡ 0 → ⊥) → tested_before b r ≡ false

pub sooner_first : (a b : ℕ) → Sooner a b (sooner a b)
unfolding sooner pick
sooner_first a b = by_tests_lem (eqb a 0) (eqb b 0) (tested_before b a) refl refl refl
  where
    by_tests_lem : (t u v : Bool) → eqb a 0 ≡ t → eqb b 0 ≡ u → tested_before b a ≡ v → Sooner a b (pick t b (pick u a (pick v b a)))
    by_tests_lem true u v e f g =
        record { one = inr refl; none = λ z. (eqb-true _ _ e, z); first = λ n. absurd (n (eqb-true _ _ e)); other = λ n. never_itself b }
    by_tests_lem false true v e f g =
        record { one = inl refl; none = λ z. (z, eqb-true _ _ f); first = λ n. never_itself a; other = λ n. absurd (n (eqb-true _ _ f)) }
    by_tests_lem false false true e f g =
        record { one = inr refl; none = λ z. absurd (eqb-false _ _ f z); first = λ n. one_way a b g; other = λ n. never_itself b }
    by_tests_lem false false false e f g =
        record { one = inl refl; none = λ z. absurd (eqb-false _ _ e z); first = λ n. never_itself a; other = λ n. g }

-- each is tested before the next
rising : List ℕ → Bool
rising [] = true
rising (a ∷ []) = true
rising (a ∷ b ∷ l) = tested_before a b and rising (b ∷ l)

all_rules : rising (2 ∷ 3 ∷ 4 ∷ 30 ∷ 5 ∷ 6 ∷ 7 ∷ 8 ∷ 9 ∷ 10 ∷ 11 ∷ 29 ∷ 12 ∷ 31 ∷ 13 ∷ 14 ∷ 15 ∷ 16 ∷ 17 ∷ 19 ∷ []) ≡ true
unfolding rising tested_before rank_of pick ◌and◌ ◌or◌
all_rules = refl

-- `G37X0Y0D01*` with an open contour (13) and the mode unset (11)
mode_decides : (sooner 13 11 ≡ 11) × (sooner 11 13 ≡ 11) × (sooner 31 12 ≡ 12) × (sooner 5 30 ≡ 30) × (sooner 0 7 ≡ 7) × (sooner 7 0 ≡ 7) × (sooner 0 0 ≡ 0)
unfolding sooner tested_before rank_of pick ◌and◌ ◌or◌
mode_decides = (refl, refl, refl, refl, refl, refl, refl)
