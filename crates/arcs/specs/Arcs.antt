-- The arc of a D01: its centre, and when it has none (01, State: 12; 02, [9]: 31; decisions 480 and 519).
use Rattle.std.specs.Prelude.{ℕ, Bool, true, false, not, cond, eqb, nat_abs, Option, None, Some}
use Rattle.base.specs.And.{◌and◌}
use Rattle.points.specs.Points.{same_point, shift}
use Rattle.points.specs.declared.Point.{Point}
use Rattle.reckon.specs.ArcCentre.{nonsense_centre}
use Rattle.quadrant.specs.Centre.{chosen_centre}
use Rattle.place.specs.Kind as kind
use Rattle.graphics.specs.Graphics.{origin}
use Rattle.graphics.specs.declared.Graphics.{Graphics}
use Rattle.operation_tests.specs.Fits.{circular, offset_of}
use Rattle.command.specs.declared.Offset.{Offset}

-- single quadrant mode: G74, which the old edition alone has
unfoldable pub single : Graphics → Bool
single g = g.old and not g.quadrants

-- under it "Start equal to end gives a line of length zero"
unfoldable pub rests : Graphics → Point → Bool
rests g end = circular g and (single g and same_point g.point.at end)

-- the centre that is chosen under it
unfoldable pub choice_for : Graphics → Point → Option Offset → Option Point
choice_for g end o = chosen_centre g.point.at end (nat_abs (offset_of o).x) (nat_abs (offset_of o).y) (eqb g.mode kind.cw)

-- "Arc centre is start plus (I, J)"
unfoldable pub centre_of : Graphics → Option Offset → Point
centre_of g o = shift g.point.at (offset_of o)

-- 12, "which there covers multi-quadrant arcs alone"
unfoldable pub bad_centre : Graphics → Point → Option Offset → Bool
bad_centre g end o = (circular g and not (single g)) and nonsense_centre g.point.at end (centre_of g o)

unfoldable pub is_none : Option Point → Bool
is_none None = true
is_none (Some c) = false

-- 31 "when no centre remains or two tie"
unfoldable pub centreless : Graphics → Point → Option Offset → Bool
centreless g end o = (circular g and (single g and not (same_point g.point.at end))) and is_none (choice_for g end o)

-- the point that was chosen
unfoldable pub chosen_at : Option Point → Point
chosen_at None = origin
chosen_at (Some c) = c

-- the kind of the item that a D01 draws: the mode says it
unfoldable pub kind_drawn : Graphics → Point → ℕ
kind_drawn g end = cond (rests g end) kind.line g.mode

-- "Unused fields .. are 0": a line has no centre
unfoldable pub arc_centre : Graphics → Point → Option Offset → Point
arc_centre g end o =
    cond (circular g) (cond (single g) (cond (same_point g.point.at end) origin (chosen_at (choice_for g end o))) (centre_of g o)) origin
