-- The points of a D01 after FS that does not break 5 are near, and so is its centre.
-- Assumes nothing.
use Rattle.std.specs.Prelude.{Option, ℤ, None, Some}
use Prim.Native.Nat.{◌*◌, ◌^◌, ◌≤◌}
use mathlib.Core.Path.{◌≡◌, refl}
use mathlib.Core.Bool.{Bool, true, false, cond}
use native.Mathlib.Omega.{arith}
use lib.Dec.{eqb}
use lib.IntN.{nat_abs}
use Rattle.place.specs.Kind as kind
use Rattle.base.specs.And.{◌and◌}
use Rattle.points.specs.Points.{Within, same_point}
use Rattle.points.specs.declared.Point.{Point}
use Rattle.points.proofs.Laws.{shift_within}
use Rattle.quadrant.proofs.Laws.{chosen_within}
use Rattle.graphics.specs.Graphics.{origin}
use Rattle.graphics.specs.declared.Graphics.{Graphics}
use Rattle.changes.specs.After.{target}
use Rattle.operation_tests.specs.Far.{is_formatted, is_far, goes_far}
use Rattle.operation_tests.proofs.Laws.{Less, less, less_within, Reaches, reaches, neither_left, neither_right}
use Rattle.operation_tests.specs.Fits.{circular, offset_of, draws_far}
use Rattle.arcs.specs.Arcs.{single, rests, choice_for, centre_of, chosen_at, kind_drawn, arc_centre}
use Rattle.arcs.specs.Near.{Near}
use Rattle.command.specs.declared.Offset.{Offset}

-- I and J
offset_less : (g : Graphics) (x y : Option ℤ) (o : Option Offset) → is_formatted g ≡ true → draws_far g x y o ≡ false → Less (offset_of o)
unfolding draws_far ◌and◌
offset_less g x y o f e = less (offset_of o) (rw f at (neither_right (goes_far g x y) _ e))

goes : (g : Graphics) (x y : Option ℤ) (o : Option Offset) → is_formatted g ≡ true → draws_far g x y o ≡ false → Reaches g x y
unfolding draws_far
goes g x y o f e = reaches g x y f (neither_left (goes_far g x y) _ e)

pub draws_near : (g : Graphics) (x y : Option ℤ) (o : Option Offset) → is_formatted g ≡ true → draws_far g x y o ≡ false → Near g (target g x y) o
draws_near g x y o f e =
    let r = goes g x y o f e in
    let h = offset_less g x y o f e in
    record { start = less_within g.point.at r.from; goal = less_within (target g x y) r.to; across = h.across; up = h.up }

-- the centre is within twice 10^12: it stands from the start by I and J
module _ (g : Graphics) (end : Point) (o : Option Offset) (h : Near g end o) where
  origin_within : Within (2 * 10 ^ 12) origin
  unfolding origin
  origin_within = record { across = omega arith; up = omega arith }

  given_within : Within (2 * 10 ^ 12) (centre_of g o)
  unfolding centre_of
  given_within =
      let p : Within (10 ^ 12) (offset_of o) = record { across = omega (arith, h.across); up = omega (arith, h.up) } in
      let s = shift_within (10 ^ 12) (10 ^ 12) g.point.at (offset_of o) h.start p in
      record { across = omega (arith, s.across); up = omega (arith, s.up) }

  chosen_near : Within (2 * 10 ^ 12) (chosen_at (choice_for g end o))
  unfolding chosen_at choice_for
  chosen_near = go (choice_for g end o) refl
    where
      go : (c : Option Point) → choice_for g end o ≡ c → Within (2 * 10 ^ 12) (chosen_at c)
      go None q = origin_within
      go (Some c) q = chosen_within (eqb g.mode kind.cw) g.point.at end (nat_abs (offset_of o).x) (nat_abs (offset_of o).y) c q (10 ^ 12) h.start h.across h.up

  pub centre_within : Within (2 * 10 ^ 12) (arc_centre g end o)
  unfolding arc_centre
  centre_within = go (circular g) (single g) (same_point g.point.at end)
    where
      go : (arc one rests : Bool) → Within (2 * 10 ^ 12) (cond arc (cond one (cond rests origin (chosen_at (choice_for g end o))) (centre_of g o)) origin)
      go true true true = origin_within
      go true true false = chosen_near
      go true false rests = given_within
      go false one rests = origin_within

-- a D01 draws a line or an arc
pub kind_most : (g : Graphics) (end : Point) → g.mode ≤ 3 → kind_drawn g end ≤ 3
unfolding kind_drawn
kind_most g end m = go (rests g end)
  where
    go : (t : Bool) → cond t kind.line g.mode ≤ 3
    go true = omega arith
    go false = m
