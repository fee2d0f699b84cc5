-- `names::walk_from` meets its contract. The loop's invariant is `Going`: of the names before a place those for which there was room are
-- kept, and what is left to find follows from them.
-- Assumes nothing.
use Prim.Native.Nat.{◌-◌}
use mathlib.Core.Path.{◌≡◌}
use lib.ListN.{length}
use Rattle.register.specs.Wide.{wide}
use Rattle.names.proofs.Going.{Going}
use Rattle.names.proofs.walk_from.Given as goal

abbrev pub invariant-loop-next : goal.invariant-loop-next
invariant-loop-next l = Going l.book l.file (wide l.s) l.used l.from l.at l.rest × (length l.s ≡ length l.initial.s)

abbrev pub decreases-loop-next : goal.decreases-loop-next
decreases-loop-next l = length l.file - l.at
