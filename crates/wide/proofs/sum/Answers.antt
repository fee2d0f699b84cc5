-- `wide::sum` meets its contract: sizes of one sign are added, and of two signs the larger decides.
use mathlib.Core.Path.{sym, ◌∙◌}
use native.Mathlib.Nat.{le_of_lt}
use borrow.Author.Tests.{ltb-true, ltb-false}
use Rattle.wide.proofs.Sizes.{size_is, sum_alike, sum_first, sum_second}
use Rattle.wide.proofs.sum.Goals as goal

pub plus-requires : goal.plus-requires
plus-requires c = record {
  a_bound = rw (size_is c.args.x) at c.requires.x_bound;
  b_bound = rw (size_is c.args.y) at c.requires.y_bound;
}

pub returns-then-x-y : goal.returns-then-x-y
returns-then-x-y c = sum_alike c.args.x c.args.y _ c.if-x-y.true c.plus.ensures

pub less_by-requires : goal.less_by-requires
less_by-requires c = le_of_lt (ltb-true _ _ (sym c.less.ensures ∙ c.if-less.true))

pub returns-then-less : goal.returns-then-less
returns-then-less c =
    sum_second c.args.x c.args.y _ c.if-x-y.false (le_of_lt (ltb-true _ _ (sym c.less.ensures ∙ c.if-less.true))) c.less_by.ensures

pub less_by-requires-else-less : goal.less_by-requires-else-less
less_by-requires-else-less c = ltb-false _ _ (sym c.less.ensures ∙ c.if-less.false)

pub returns-else-less : goal.returns-else-less
returns-else-less c =
    sum_first c.args.x c.args.y _ c.if-x-y.false (ltb-false _ _ (sym c.less.ensures ∙ c.if-less.false)) c.less_by-else-less.ensures
