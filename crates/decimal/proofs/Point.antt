-- The parts of a text at its first point are those before and after the first of its bytes that is a point.
-- Assumes nothing.
use Prim.Native.Nat.{ℕ, suc, ◌+◌}
use mathlib.Core.Path.{◌≡◌, refl, ap, ◌∙◌}
use mathlib.Core.Bool.{Bool, true, false}
use mathlib.Core.List.{List, [], ◌∷◌}
use native.Mathlib.Omega.{arith}
use lib.Dec.{eqb}
use lib.ListN.{take, drop}
use Rattle.text.specs.First.{first_in, place, before_byte, after_byte}
use Rattle.text.proofs.First.{in_further}
use Rattle.decimal.specs.Point.{before_point, after_point}

-- the place of the first point
abbrev at : List ℕ → ℕ
at s = place 46 s 0

-- it is one place further on behind another byte
at_next : (s : List ℕ) → first_in (λ x. eqb x 46) s (0 + 1) ≡ suc (at s)
at_next s = let h = in_further (λ x. eqb x 46) s 0 in omega arith

pub before_first : (s : List ℕ) → before_byte 46 s ≡ before_point s
unfolding before_byte before_point first_in
before_first [] = refl
before_first (b ∷ s) = go (eqb b 46) (before_first s)
  where
    go : (t : Bool) → take (at s) s ≡ before_point s →
        take (elim t [ true ↦ 0 | false ↦ first_in (λ x. eqb x 46) s (0 + 1) ]) (b ∷ s) ≡ elim t [ true ↦ [] | false ↦ b ∷ before_point s ]
    go true ih = refl
    go false ih = ap (λ (n : ℕ). take n (b ∷ s)) (at_next s) ∙ ap (λ l. b ∷ l) ih

pub after_first : (s : List ℕ) → after_byte 46 s ≡ after_point s
unfolding after_byte after_point first_in
after_first [] = refl
after_first (b ∷ s) = go (eqb b 46) (after_first s)
  where
    go : (t : Bool) → drop 1 (drop (at s) s) ≡ after_point s →
        drop 1 (drop (elim t [ true ↦ 0 | false ↦ first_in (λ x. eqb x 46) s (0 + 1) ]) (b ∷ s)) ≡ elim t [ true ↦ s | false ↦ after_point s ]
    go true ih = refl
    go false ih = ap (λ (n : ℕ). drop 1 (drop n (b ∷ s))) (at_next s) ∙ ih
