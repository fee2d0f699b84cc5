-- `lists::number` meets its contract: the conditions of a sheet, then the total.
use Rattle.lists.proofs.Answers.{number_done, number_past, number_not}
use Rattle.sheet.specs.Containers.{top_of}
use mathlib.Core.Path.{sym, ◌∙◌}
use Rattle.lists.proofs.number.Goals as goal

pub returns-then-not-is_sheet : goal.returns-then-not-is_sheet
returns-then-not-is_sheet c = number_not _ _ _ _ (sym c.is_sheet.ensures ∙ c.if-not-is_sheet.true)

pub returns-then-k-head : goal.returns-then-k-head
unfolding top_of
returns-then-k-head c = number_past _ _ _ _ (sym c.is_sheet.ensures ∙ c.if-not-is_sheet.false) c.if-k-head.true

pub returns-else-k-head : goal.returns-else-k-head
unfolding top_of
returns-else-k-head c = number_done _ _ _ _ (sym c.is_sheet.ensures ∙ c.if-not-is_sheet.false) c.if-k-head.false
