-- A search over records in use that a list holds one after the other: what it finds is what the list has first.
-- Assumes nothing.
use Rattle.std.specs.Prelude.{Err, Ok, Result, ℕ}
use Prim.Native.Nat.{ℕ, zero, suc, ◌+◌, ◌<◌}
use mathlib.Core.Path.{◌≡◌, refl}
use mathlib.Core.Bool.{Bool, true, false}
use native.Mathlib.Omega.{arith}
use Rattle.index.specs.First.{first_of}

abbrev pub is_found : Result ℕ ℕ → Bool
is_found (Ok i) = true
is_found (Err l) = false

-- what is found is one of those in use, and the test picks it
abbrev pub Picked : (ℕ → Bool) → ℕ → Result ℕ ℕ → Type 0
Picked is m (Ok i) = (i < m) × (is i ≡ true)
Picked is m (Err l) = Unit

pub first_picked : (is : ℕ → Bool) (p n link : ℕ) → Picked is (p + n) (first_of is p n (Err link))
unfolding first_of
first_picked is p zero link = tt
first_picked is p (suc n) link = go (is p) refl (let e : suc p + n ≡ p + suc n = omega arith in rw e at (first_picked is (suc p) n link))
  where
    go : (b : Bool) → is p ≡ b → Picked is (p + suc n) (first_of is (suc p) n (Err link))
        → Picked is (p + suc n) (elim b [ true ↦ Ok p | false ↦ first_of is (suc p) n (Err link) ])
    go true e rest = (omega arith, e)
    go false e rest = rest
