-- `shapes::count_of` meets its contract: the loop keeps that so many are counted, and with those from here on all are.
-- Assumes nothing.
use Rattle.shapes.proofs.Cutting.{counted_on}
use Rattle.shapes.specs.Primitives.{primitives_in, counted_as}
use mathlib.Core.Path.{◌≡◌}
use Prim.Native.Nat.{◌-◌, ◌≤◌}
use Rattle.shapes.proofs.count_of.Given as goal

abbrev pub invariant-loop-at : goal.invariant-loop-at
invariant-loop-at l = (l.at ≤ l.end) × (l.k ≤ l.at) × (counted_on l.k (primitives_in l.numbers l.at l.end) ≡ counted_as (primitives_in l.numbers l.first l.end))

abbrev pub decreases-loop-at : goal.decreases-loop-at
decreases-loop-at l = l.end - l.at
