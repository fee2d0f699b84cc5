-- `passes::faults` meets its contract: the loop's invariant is `Passing`: what is left of the pass finds what the whole finds, and the records say which mains came.
-- Assumes nothing.
use lib.ListN.{length}
use Prim.Native.Nat.{◌-◌, ◌≤◌}
use mathlib.Core.Path.{◌≡◌}
use Rattle.seeing.specs.Layer.{Layer}
use Rattle.passes.proofs.Mains.{Passing}
use Rattle.passes.specs.Marks.{Marked}
use Rattle.passes.proofs.faults.Given as goal

abbrev pub invariant-loop-k : goal.invariant-loop-k
invariant-loop-k l = (length l.names ≡ length l.initial.names) × ((y : Layer l.e l.a l.top l.notes l.operations l.roles l.roled) → Marked y l.initial.names 0 → Passing y l.names l.o l.k)
