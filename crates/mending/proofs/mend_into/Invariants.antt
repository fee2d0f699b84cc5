-- `mending::mend_into` meets its contract: its loop is the walk of `Running`, and each way out one of its laws.
-- Assumes nothing.
use Prim.Native.Nat.{◌-◌}
use lib.ListN.{length}
use lib.Seq.{slice}
use Rattle.mending.proofs.Running.{Running}
use Rattle.mending.proofs.mend_into.Given as goal

abbrev pub invariant-loop-found : goal.invariant-loop-found
invariant-loop-found l =
    Running l.book l.file (length l.initial.out) (length l.initial.noted) (slice l.fs.from l.fs.to l.file) (slice l.mo.from l.mo.to l.file) l.at l.out l.n l.noted l.t

abbrev pub decreases-loop-found : goal.decreases-loop-found
decreases-loop-found l = length l.file - l.at
