-- `descend::sheet_total` meets its contract: the total of a valid store is the length of its expansion.
use Rattle.descend.proofs.Answers.{total_is, total_not}
use Rattle.sheet.specs.Containers.{top_of}
use mathlib.Core.Path.{sym, ◌∙◌}
use Rattle.descend.proofs.sheet_total.Goals as goal

pub returns-then-is_sheet : goal.returns-then-is_sheet
unfolding top_of
returns-then-is_sheet c = total_is _ _ _ (sym c.is_sheet.ensures ∙ c.if-is_sheet.true)

pub returns-else-is_sheet : goal.returns-else-is_sheet
returns-else-is_sheet c = total_not _ _ _ (sym c.is_sheet.ensures ∙ c.if-is_sheet.false)
