-- D01 and D03 move the current point within its bounds, and leave mode and aperture.
-- Assumes nothing.
use Rattle.std.specs.Prelude.{Option, ℤ}
use Prim.Native.Nat.{◌^◌}
use Rattle.points.specs.Points.{Within}
use Rattle.changes.specs.After.{target}
use mathlib.Core.Path.{refl}
use Rattle.command.specs.declared.Command.TheVariants as command
use Rattle.command.specs.declared.Operation.TheVariants as operation
use Rattle.graphics.specs.Graphics.{with_point, with_region}
use Rattle.changes.specs.After.{going_to, drawing, after_operation, after}
use Rattle.law_reading.specs.State.{State}
use Rattle.progress.specs.Lent.{Lent}
use Rattle.progress.specs.Knows.{Knows}
use Rattle.progress.specs.declared.Progress.{Progress}
use Rattle.stroke_steps.proofs.Grown.{Moves}
use Rattle.command.specs.declared.Offset.{Offset}

pub draw_moves : (w : Lent) (p : Progress) (s : State) (x y : Option ℤ) (o : Option Offset) → Knows w p s → Within (10 ^ 12) (target s.graphics x y) → Moves (command.Operate (operation.Draw x y o)) s
unfolding after after_operation going_to with_point with_region drawing
draw_moves w p s x y o k there = record { point = there; mode = refl; aperture = refl; inside = λ q. q }

pub flash_moves : (w : Lent) (p : Progress) (s : State) (x y : Option ℤ) → Knows w p s → Within (10 ^ 12) (target s.graphics x y) → Moves (command.Operate (operation.Flash x y)) s
unfolding after after_operation going_to with_point
flash_moves w p s x y k there = record { point = there; mode = refl; aperture = refl; inside = k.inside }
