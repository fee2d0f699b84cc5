-- A table of rules whose number is 0: no rule of it is broken.
-- Assumes nothing.
use Prim.Native.Nat.{ℕ, ◌≤◌}
use mathlib.Core.Path.{◌≡◌, refl}
use mathlib.Core.Bool.{Bool, true, false}
use native.Mathlib.Omega.{arith}
use Rattle.base.specs.Choose.{pick}

-- its first test does not hold, and the number of the rows after it is 0
pub unbroken : {test : Bool} {number rest : ℕ} → 1 ≤ number → pick test number rest ≡ 0 → (test ≡ false) × (rest ≡ 0)
unfolding pick
unbroken {test = true} some none = absurd (omega arith)
unbroken {test = false} some none = (refl, none)
