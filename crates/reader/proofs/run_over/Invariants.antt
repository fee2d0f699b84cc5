-- `reader::run_over` meets its contract. The loop's invariant: the rooms are as long as they were, and what was looked for is the place; a run
-- asks only where nobody looked, and so no more than once.
-- Assumes nothing.
use Rattle.progress.specs.Lent.{lent_of}
use Rattle.running.specs.Ends.{AsLong, Looked}
use Rattle.reader.proofs.Outcome.{looks_left}
use Rattle.reader.proofs.run_over.Given as goal

abbrev pub invariant-loop-x : goal.invariant-loop-x
invariant-loop-x l = AsLong (lent_of l.file l.initial.e l.initial.a l.initial.m l.initial.numbers) (lent_of l.file l.e l.a l.m l.numbers) × Looked l.book l.file l.repeat

abbrev pub decreases-loop-x : goal.decreases-loop-x
decreases-loop-x l = looks_left l.repeat
