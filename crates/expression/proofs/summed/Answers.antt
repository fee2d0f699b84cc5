-- `expression::summed` meets its contract: of two that are fine it is the result of the operation, else it is refused.
-- Assumes nothing.
use Rattle.expression.specs.Grammar.{sum_by}
use Rattle.expression.proofs.Sizes.{SmallResult, sum_small}
use Rattle.expression.proofs.Told.{join_fine, join_refused}
use mathlib.Core.Path.{sym, subst, ◌∙◌}
use Rattle.expression.proofs.summed.Goals as goal

pub sum_by-requires : goal.sum_by-requires
sum_by-requires c = c.requires

pub returns-then-both : goal.returns-then-both
returns-then-both c =
    let a = c.args in
    let e = c.sum_by.ensures in
    rw c.kept.ensures
    (join_fine (sum_by a.second) a.a a.b (sym c.both.ensures ∙ c.if-both.true) c.sum_by.result e
    (subst SmallResult (sym e) (sum_small a.second a.a.value.millionths a.b.value.millionths)))

pub returns : goal.returns
returns c =
    let a = c.args in
    join_refused (sum_by a.second) a.a a.b (sym c.both.ensures ∙ c.if-both.false)
