-- One decimal counts at most once.
-- Assumes nothing.
use Prim.Native.Nat.{◌≤◌}
use mathlib.Core.Bool.{Bool, true, false}
use native.Mathlib.Omega.{arith}
use Rattle.command.specs.Rounded.{counted}

pub counted_within : (rounded : Bool) → counted rounded ≤ 1
unfolding counted
counted_within true = omega arith
counted_within false = omega arith
