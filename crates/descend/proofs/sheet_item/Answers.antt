-- `descend::sheet_item` meets its contract: in a valid store the descent from the top level answers the item.
use Rattle.descend.proofs.Answers.{asked_top, answer_is, answer_past, answer_not}
use mathlib.Core.Path.{sym, ◌∙◌}
use Rattle.descend.proofs.sheet_item.Goals as goal

pub returns-then-not-is_sheet : goal.returns-then-not-is_sheet
returns-then-not-is_sheet c = answer_not _ _ _ _ (sym c.is_sheet.ensures ∙ c.if-not-is_sheet.true)

pub returns-then-n-top : goal.returns-then-n-top
returns-then-n-top c = answer_past _ _ _ _ (sym c.is_sheet.ensures ∙ c.if-not-is_sheet.false) (rw c.top_of-top.ensures at c.if-n-top.true)

pub item_at-requires : goal.item_at-requires
item_at-requires c = rw c.top_of-top.ensures
    (asked_top _ _ _ _ (sym c.is_sheet.ensures ∙ c.if-not-is_sheet.false) (rw c.top_of-top.ensures at c.if-n-top.false))

pub returns : goal.returns
returns c = answer_is _ _ _ _ _ (sym c.is_sheet.ensures ∙ c.if-not-is_sheet.false) (rw c.top_of-top.ensures at c.if-n-top.false)
    (rw c.top_of-top.ensures at c.item_at.ensures.is)
