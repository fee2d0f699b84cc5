-- `summary::summary` meets its contract: cleared rows are filled from a sheet with room enough, and stay as they are where there is nothing to answer.
use Rattle.summary_by_aperture.specs.Answers.{roomy}
use Rattle.summary_by_aperture.proofs.Answers.{answer_done, answer_short, answer_not}
use Rattle.sheet.specs.Containers.{apertures_used}
use Rattle.base.proofs.And.{ands}
use Rattle.std.proofs.Common.{◌≡◌, true, false, length, lt-ltb, le-ltb, le-leb, sym, ◌∙◌}
use borrow.Author.Tests.{lt-leb}
use Rattle.summary.proofs.summary.Goals.{else-n-rows-via-then-n-rows+else-n-scratch, else-n-rows-via-else-n-rows}
use Rattle.summary.proofs.summary.Goals as goal

pub returns-then-not-is_sheet : goal.returns-then-not-is_sheet
returns-then-not-is_sheet c = answer_not _ _ _ _ _ _ (sym c.is_sheet.ensures ∙ c.if-not-is_sheet.true) c.clear.ensures

pub returns-then-n-scratch : goal.returns-then-n-scratch
unfolding roomy
returns-then-n-scratch c =
    let A = c.args in
    let rows = lt-ltb _ _ (rw (c.index-n.ensures, c.clear.auto.s) at c.if-n-rows.true) in
    let scratch = le-leb _ _ (rw c.index-n.ensures at c.if-n-scratch.true) in
    let room : roomy (apertures_used A.head.now) (length A.rows.now) (length A.scratch.now) ≡ true = simp (rows, scratch, ands) in
    answer_done _ _ _ _ _ _ (sym c.is_sheet.ensures ∙ c.if-not-is_sheet.false) room (rw c.clear.auto.s at c.fill.ensures)

pub returns : goal.returns
unfolding roomy
returns c =
    let A = c.args in
    let short : roomy (apertures_used A.head.now) (length A.rows.now) (length A.scratch.now) ≡ false =
    elim c.else-n-rows.branch [
      | else-n-rows-via-then-n-rows+else-n-scratch w ↦
          let rows = lt-ltb _ _ (rw (c.index-n.ensures, c.clear.auto.s) at w.if-n-rows.true) in
          let scratch = lt-leb _ _ (rw c.index-n.ensures at w.if-n-scratch.false) in
          simp (rows, scratch, ands)
      | else-n-rows-via-else-n-rows w ↦ let rows = le-ltb _ _ (rw (c.index-n.ensures, c.clear.auto.s) at w.if-n-rows.false) in simp (rows, ands)
    ] in
    answer_short _ _ _ _ _ _ (sym c.is_sheet.ensures ∙ c.if-not-is_sheet.false) short c.clear.ensures
