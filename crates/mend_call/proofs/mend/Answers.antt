-- `mend_call::mend` meets its contract: what is mended is there, and a refusal clears everything that is lent.
-- Assumes nothing.
use mathlib.Core.Path.{sym, ◌∙◌}
use lib.ListN.{length}
use native.Mathlib.Omega.{arith}
use Rattle.progress.specs.Lent.{lent_of}
use Rattle.mend_call.proofs.Coming.{zeros_long, zeros_own, mends, withholds}
use Rattle.mend_call.proofs.mend.Goals as goal

pub mend_over-r-requires : goal.mend_over-r-requires
mend_over-r-requires c =
    let A = c.args in
    (zeros_own (length A.out.now) c.clear_report.ensures.0, zeros_own (length A.report.now) c.clear_report.ensures.1)

pub returns-then-is_mended : goal.returns-then-is_mended
returns-then-is_mended c =
    let z = c.clear_report.ensures in
    mends _ _ _ _ _ _ _ _ _ _ _ _ _ (zeros_long 0 _ z.0) (zeros_long 0 _ z.1) c.mend_over-r.ensures (sym c.is_mended.ensures ∙ c.if-is_mended.true)

pub shape_of-out : goal.shape_of-out
shape_of-out c =
    omega (arith, c.clear.auto.out, c.mend_over-r.auto.out, c.clear_report.auto.out)

pub shape_of-report : goal.shape_of-report
shape_of-report c =
    omega (arith, c.clear.auto.report, c.mend_over-r.auto.report, c.clear_report.auto.report)

pub returns : goal.returns
unfolding lent_of
returns c =
    let z = c.clear.ensures in
    let y = c.clear_report.ensures in
    withholds _ _ _ _ _ _ _ _ _ _ _ _ _ (zeros_long 0 _ y.0) (zeros_long 0 _ y.1) c.mend_over-r.ensures (sym c.is_mended.ensures ∙ c.if-is_mended.false) _ _ _ (lent_of _ _ _ _ _) z.0 z.1
    (record { head_is = z.2; entries_are = z.3; apertures_are = z.4; macros_are = z.5; numbers_are = z.6 })
