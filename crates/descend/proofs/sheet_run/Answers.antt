-- `descend::sheet_run` meets its contract: a cleared slice is filled from a valid store, and stays as it is where there is nothing to answer.
use Rattle.descend.proofs.Answers.{whole_top, fetch_done, fetch_past, fetch_not}
use mathlib.Core.Path.{sym, ◌∙◌}
use Rattle.descend.proofs.sheet_run.Goals as goal

pub returns-then-not-is_sheet : goal.returns-then-not-is_sheet
returns-then-not-is_sheet c = fetch_not _ _ _ _ _ _ (sym c.is_sheet.ensures ∙ c.if-not-is_sheet.true) c.clear.ensures

pub returns-then-n-top : goal.returns-then-n-top
returns-then-n-top c =
    fetch_past _ _ _ _ _ _ (sym c.is_sheet.ensures ∙ c.if-not-is_sheet.false) (rw c.top_of-top.ensures at c.if-n-top.true) c.clear.ensures

pub fill-requires : goal.fill-requires
fill-requires c = (
  rw c.top_of-top.ensures (whole_top _ _ _ _ (sym c.is_sheet.ensures ∙ c.if-not-is_sheet.false) (rw c.top_of-top.ensures at c.if-n-top.false)),
  rw c.clear.auto.s c.clear.ensures,
)

pub returns : goal.returns
returns c =
    fetch_done _ _ _ _ _ _ (sym c.is_sheet.ensures ∙ c.if-not-is_sheet.false) (rw c.top_of-top.ensures at c.if-n-top.false)
    (rw (c.top_of-top.ensures, c.clear.auto.s) at c.fill.ensures)
