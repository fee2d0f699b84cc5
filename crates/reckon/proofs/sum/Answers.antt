-- `reckon::sum` meets its contract: the operands are small, so the sum is exact.
use mathlib.Core.Path.{ap, ◌∙◌}
use Rattle.ints.proofs.Bounded.{add_asks, add_gives}
use Rattle.reckon.specs.Rounding.{kept_of, sum_of}
use native.Mathlib.Omega.{arith}
use Rattle.reckon.proofs.sum.Goals as goal

pub overflow_add-a : goal.overflow_add-a
overflow_add-a c = add_asks c.args.a c.args.b (omega arith)

pub returns : goal.returns
unfolding sum_of
returns c = let a = c.args in c.kept_whole.ensures ∙ ap kept_of (add_gives a.a a.b (omega arith))
