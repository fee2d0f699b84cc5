-- The points of a D01 that breaks no rule by 5: its start, its end, and I and J.
use Rattle.std.specs.Prelude.{◌^◌, ◌<◌, nat_abs, Option}
use Rattle.points.specs.Points.{Within}
use Rattle.points.specs.declared.Point.{Point}
use Rattle.graphics.specs.declared.Graphics.{Graphics}
use Rattle.operation_tests.specs.Fits.{offset_of}
use Rattle.command.specs.declared.Offset.{Offset}

pub record Near (g : Graphics) (end : Point) (o : Option Offset) : Type 0 where
  pub start : Within (10 ^ 12) g.point.at
  pub goal : Within (10 ^ 12) end
  pub across : nat_abs (offset_of o).x < 10 ^ 12
  pub up : nat_abs (offset_of o).y < 10 ^ 12
