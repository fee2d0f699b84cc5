-- `graphics::angle_after` meets its contract: a full turn more or less in a summand is none in the angle.
use Prim.Native.Nat.{ℕ, ◌+◌, ◌%◌}
use mathlib.Core.Path.{◌≡◌}
use native.Mathlib.Omega.{arith}
use Rattle.graphics.specs.Orientation.{angle_after}
use Rattle.graphics.proofs.angle_after.Goals as goal

turned-twice : (h a : ℕ) → (h + a % 360_000_000) % 360_000_000 ≡ (h + a) % 360_000_000
turned-twice h a = omega arith

unturned : (a : ℕ) → a % 360_000_000 ≡ (0 + a) % 360_000_000
unturned a = omega arith

pub returns-then-y : goal.returns-then-y
unfolding angle_after
returns-then-y c = rw c.if-y.true (turned-twice 180_000_000 _)

pub returns : goal.returns
unfolding angle_after
returns c = rw c.if-y.false (unturned _)
