-- What D01 and D03 draw is near, its angle is below a full turn, and its kind is that of an item.
-- Assumes nothing.
use Rattle.std.specs.Prelude.{Option}
use Prim.Native.Nat.{ℕ, ◌<◌, ◌≤◌, ◌^◌}
use mathlib.Core.Bool.{Bool, true, false, cond}
use native.Mathlib.Nat.{mod-lt}
use native.Mathlib.Omega.{arith}
use Rattle.points.specs.declared.Point.{Point}
use Rattle.points.specs.Points.{Within}
use Rattle.place.specs.Placing.{full_turn, PoseWithin, ItemWithin}
use Rattle.sheet.specs.Valid.{far}
use Rattle.graphics.specs.Graphics.{origin}
use Rattle.graphics.specs.Orientation.{angle_after, orientation}
use Rattle.graphics.specs.declared.Graphics.{Graphics}
use Rattle.graphics.specs.declared.Transform.{Transform}
use Rattle.arcs.specs.Arcs.{rests, kind_drawn, arc_centre}
use Rattle.arcs.specs.Near.{Near}
use Rattle.arcs.proofs.Draws.{centre_within}
use Rattle.place.specs.Kind as kind
use Rattle.marks.specs.Items.{drawn, edge, contour, flashed, pose}
use Rattle.command.specs.declared.Offset.{Offset}

-- what a file can write is nearer than what a sheet can hold
near : (p : Point) → Within (10 ^ 12) p → Within far p
near p w = record { across = omega (arith, w.across); up = omega (arith, w.up) }

origin_near : Within far origin
unfolding origin
origin_near = record { across = omega arith; up = omega arith }

angle_below : (t : Transform) → (orientation t).angle < full_turn
unfolding orientation angle_after
angle_below t = mod-lt _ (omega arith)

module _ (g : Graphics) (end : Point) (o : Option Offset) (n : Near g end o) (place : ℕ) where
  centre_near : Within far (arc_centre g end o)
  centre_near = let c = centre_within g end o n in record { across = omega (arith, c.across); up = omega (arith, c.up) }

  pub drawn_near : ItemWithin far (drawn g end o place)
  unfolding drawn
  drawn_near = record { start_in_lem = near _ n.start; end_in_lem = near _ n.goal; centre_in = centre_near; angle_in = angle_below g.transform }

  pub edge_near : ItemWithin far (edge g end o place)
  unfolding edge
  edge_near = record { start_in_lem = near _ n.start; end_in_lem = near _ n.goal; centre_in = centre_near; angle_in = omega arith }

-- the kind of what a D01 draws
module _ (g : Graphics) (end : Point) where
  pub kind_least : 1 ≤ g.mode → 1 ≤ kind_drawn g end
  unfolding kind_drawn
  kind_least m = go (rests g end)
    where
      go : (t : Bool) → 1 ≤ cond t kind.line g.mode
      go true = omega arith
      go false = m

module _ (g : Graphics) (at : Within (10 ^ 12) g.point.at) where
  module _ (end : Point) (there : Within (10 ^ 12) end) (place : ℕ) where
    pub flashed_near : ItemWithin far (flashed g end place)
    unfolding flashed
    flashed_near = record { start_in_lem = origin_near; end_in_lem = near _ there; centre_in = origin_near; angle_in = angle_below g.transform }

    pub pose_near : PoseWithin far (pose g end)
    unfolding pose
    pose_near = record { at_in = near _ there; angle_in = angle_below g.transform }

  pub contour_near : (place : ℕ) → ItemWithin far (contour g place)
  unfolding contour
  contour_near place = record { start_in_lem = near _ at; end_in_lem = origin_near; centre_in = origin_near; angle_in = omega arith }
