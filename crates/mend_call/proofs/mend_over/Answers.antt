-- `mend_call::mend_over` meets its contract: what the pass wrote is read, and the answer goes by what the reader says of it.
-- Assumes nothing.
use mathlib.Core.Path.{sym, ◌∙◌}
use Rattle.progress.specs.Lent.{Lent, lent_of}
use Rattle.mend_call.proofs.Coming.{same_long, comes, comes_short, comes_over}
use Rattle.mend_call.proofs.mend_over.Goals as goal

pub returns-then-has_file : goal.returns-then-has_file
returns-then-has_file c =
    comes c.mend_into-w.ensures (sym c.has_file.ensures ∙ c.if-has_file.true) _ _ _ _ _ _ _ _ _ _ (sym c.file_fits.ensures ∙ c.if-file_fits.true)
    c.bytes_of-bytes.ensures c.has_report.ensures c.changes_of.ensures c.read_bytes-r.ensures c.answer_from.ensures

pub returns-then-file_fits : goal.returns-then-file_fits
returns-then-file_fits c =
    comes_short c.mend_into-w.ensures (sym c.has_file.ensures ∙ c.if-has_file.false) (sym c.file_fits.ensures ∙ c.if-file_fits.true) _ _ _ (same_long _) _

pub returns : goal.returns
returns c =
    let A = c.args in
    let v : Lent = lent_of A.file.now A.e.now A.a.now A.m.now A.numbers.now in
    comes_over _ _ _ A.out.now A.report.now A.head.now v v (sym c.file_fits.ensures ∙ c.if-file_fits.false) (same_long v)
