-- `shapes::skip` meets its contract: the loop keeps that from here on the primitives are whole, and those left to pass are the same as from the start.
-- Assumes nothing.
use Rattle.shapes.specs.Runs.{Whole}
use Rattle.shapes.specs.Primitives.{primitives_in}
use lib.ListN.{drop}
use mathlib.Core.Path.{◌≡◌}
use Prim.Native.Nat.{◌-◌}
use Rattle.shapes.proofs.skip.Given as goal

abbrev pub invariant-loop-j : goal.invariant-loop-j
invariant-loop-j l = Whole l.numbers l.at l.end × (drop (l.i - l.j) (primitives_in l.numbers l.at l.end).list ≡ drop l.i (primitives_in l.numbers l.from l.end).list)
