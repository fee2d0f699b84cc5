-- `shapes::fill` meets its contract. The loop's invariant: j slots are filled, the rest is 0, and the primitives from here on are those after the first j.
-- Assumes nothing.
use Rattle.shapes.proofs.Slots.{filled}
use Rattle.shapes.specs.Runs.{Whole, primitive_width}
use Rattle.shapes.specs.Primitives.{primitives_in}
use lib.ListN.{length, drop}
use mathlib.Core.Path.{◌≡◌}
use Prim.Native.Nat.{◌/◌, ◌≤◌}
use Rattle.shapes.proofs.fill.Given as goal

abbrev pub invariant-loop-j : goal.invariant-loop-j
invariant-loop-j l =
    (l.j ≤ l.room) × (length l.out ≡ length l.initial.out) × (l.out ≡ filled (primitives_in l.numbers l.from l.end).list 0 (length l.initial.out) l.j)
    × Whole l.numbers l.at l.end × ((primitives_in l.numbers l.at l.end).list ≡ drop l.j (primitives_in l.numbers l.from l.end).list) × (l.room ≡ length l.initial.out / primitive_width)
