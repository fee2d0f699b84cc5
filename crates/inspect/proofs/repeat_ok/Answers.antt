-- `inspect::repeat_ok` meets its contract: the counts are tested first, so that their product is small and not 0.
use Rattle.sheet.proofs.Conditions.{counts_ok, copies_count}
use Rattle.std.proofs.Common.{sym, ◌∙◌, arith}
use Rattle.inspect.proofs.repeat_ok.Goals as goal

pub overflow_mul-result : goal.overflow_mul-result
overflow_mul-result c =
    let r = c.args.r in let n = copies_count r (counts_ok r (sym c.counts_ok.ensures ∙ c.if-not-counts_ok.false)) in
    omega (arith, n.1)

pub nonzero_div-result : goal.nonzero_div-result
nonzero_div-result c =
    let r = c.args.r in (copies_count r (counts_ok r (sym c.counts_ok.ensures ∙ c.if-not-counts_ok.false))).0
