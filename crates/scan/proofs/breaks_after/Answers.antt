-- `scan::breaks_after` meets its contract, kind by kind.
-- Assumes nothing.
use Rattle.scan.specs.Permitted.{breaks_after}
use Rattle.scan.proofs.breaks_after.Goals as goal

pub returns-in-Word : goal.returns-in-Word
unfolding breaks_after
returns-in-Word c = rw c.in-Word.is c.one_of.ensures

pub returns-in-Extended : goal.returns-in-Extended
unfolding breaks_after
returns-in-Extended c = rw c.in-Extended.is c.one_of-in-Extended.ensures

pub returns-in-Macro : goal.returns-in-Macro
unfolding breaks_after
returns-in-Macro c = rw c.in-Macro.is c.one_of-in-Macro.ensures
