-- Tests of the rules: a row that gives the number it tests; a test that is known beside another; room that is left or not.
-- Assumes nothing.
use Prim.Native.Nat.{ℕ}
use mathlib.Core.Path.{◌≡◌, refl}
use mathlib.Core.Bool.{Bool, true, false, not}
use lib.Dec.{eqb, leb, ltb}
use borrow.Author.Tests.{eqb-true, eqb-false, ltb-true, ltb-false, le-leb, lt-leb}
use Rattle.base.specs.Or.{◌or◌}
use Rattle.base.specs.Choose.{pick}

-- a row that gives the number it tests
pub passes_number : (x rest : ℕ) → pick (not (eqb x 0)) x rest ≡ 0 → (x ≡ 0) × (rest ≡ 0)
unfolding pick
passes_number x rest = go (eqb x 0) refl
  where
    go : (b : Bool) → eqb x 0 ≡ b → pick (not b) x rest ≡ 0 → (x ≡ 0) × (rest ≡ 0)
    go true e z = (eqb-true x 0 e, z)
    go false e z = absurd (eqb-false x 0 e z)

pub or_true : (b : Bool) → (b or true) ≡ true
unfolding ◌or◌
or_true true = refl
or_true false = refl

pub or_false : (b : Bool) → (b or false) ≡ b
unfolding ◌or◌
or_false true = refl
or_false false = refl

pub room_full : (used room : ℕ) → leb room used ≡ not (ltb used room)
room_full used room = go (ltb used room) refl
  where
    go : (b : Bool) → ltb used room ≡ b → leb room used ≡ not b
    go true e = lt-leb room used (ltb-true used room e)
    go false e = le-leb room used (ltb-false used room e)
