-- `words::said` meets its contract, case by case.
-- Assumes nothing.
use Rattle.words.specs.Old.{said}
use Rattle.words.proofs.said.Goals as goal

pub returns-in-NotForm : goal.returns-in-NotForm
unfolding said
returns-in-NotForm c = rw c.in-NotForm.is

pub returns-in-Note : goal.returns-in-Note
unfolding said
returns-in-Note c = rw c.in-Note.is

pub returns-in-Halt : goal.returns-in-Halt
unfolding said
returns-in-Halt c = rw c.in-Halt.is

pub returns-in-End : goal.returns-in-End
unfolding said
returns-in-End c = rw c.in-End.is

pub returns-in-Code : goal.returns-in-Code
unfolding said
returns-in-Code c = rw c.in-Code.is (simp c.setting_of.ensures)

pub returns-in-Select : goal.returns-in-Select
unfolding said
returns-in-Select c = rw c.in-Select.is (simp (c.select_of.ensures, c.from_on.ensures))

pub returns-in-Operate : goal.returns-in-Operate
unfolding said
returns-in-Operate c = rw c.in-Operate.is (simp (c.operated.ensures, c.operation_in.ensures, c.part.ensures))
