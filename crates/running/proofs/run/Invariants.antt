-- `running::run` meets its contract. The loop's invariant: what is known of the rooms leads, with the commands from here on, to the answer.
-- Assumes nothing.
use Prim.Native.Nat.{◌-◌}
use lib.ListN.{length}
use Rattle.sequence.specs.declared.Turn.TheVariants as turn
use Rattle.progress.specs.Lent.{lent_of}
use Rattle.running.proofs.Runs.{Runs}
use Rattle.running.proofs.run.Given as goal

abbrev pub invariant-loop-f : goal.invariant-loop-f
invariant-loop-f l =
    Runs l.book l.file (lent_of l.file l.initial.e l.initial.a l.initial.m l.initial.numbers) (lent_of l.file l.e l.a l.m l.numbers) l.p l.format l.at l.set l.rounded

abbrev pub decreases-loop-f : goal.decreases-loop-f
decreases-loop-f l = length l.file - l.at
