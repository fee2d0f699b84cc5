-- `expression::multiplied` meets its contract: of two that are fine it is the result of the operation, else it is refused.
-- Assumes nothing.
use Rattle.expression.specs.Grammar.{product_by}
use Rattle.expression.proofs.Sizes.{SmallResult, product_small}
use Rattle.expression.proofs.Told.{join_fine, join_refused}
use mathlib.Core.Path.{sym, subst, ◌∙◌}
use Rattle.expression.proofs.multiplied.Goals as goal

pub product_by-requires : goal.product_by-requires
product_by-requires c = c.requires

pub returns-then-both : goal.returns-then-both
returns-then-both c =
    let a = c.args in
    let e = c.product_by.ensures in
    rw c.kept.ensures
    (join_fine (product_by a.second) a.a a.b (sym c.both.ensures ∙ c.if-both.true) c.product_by.result e
    (subst SmallResult (sym e) (product_small a.second a.a.value.millionths a.b.value.millionths)))

pub returns : goal.returns
returns c =
    let a = c.args in
    join_refused (product_by a.second) a.a a.b (sym c.both.ensures ∙ c.if-both.false)
