-- Room is full where no record is left.
-- Assumes nothing.
use Prim.Native.Nat.{ℕ, ◌-◌}
use mathlib.Core.Path.{◌≡◌, refl}
use mathlib.Core.Bool.{Bool, true, false, not}
use native.Mathlib.Omega.{arith}
use lib.Dec.{eqb, ltb}
use borrow.Author.Tests.{ltb-true, ltb-false, eq-eqb, ne_eqb}

pub full_is : (room used : ℕ) → eqb (room - used) 0 ≡ not (ltb used room)
full_is room used = go (ltb used room) refl
  where
    go : (t : Bool) → ltb used room ≡ t → eqb (room - used) 0 ≡ not t
    go true q = let l = ltb-true used room q in ne_eqb (room - used) 0 (λ z. let z' : room - used ≡ 0 = z in absurd (omega arith))
    go false q = let l = ltb-false used room q in let z : room - used ≡ 0 = omega arith in eq-eqb (room - used) 0 z
