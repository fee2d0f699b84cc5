-- `reckon::difference` meets its contract: the operands are small, so the difference is exact.
use mathlib.Core.Path.{ap, ◌∙◌}
use Rattle.ints.proofs.Bounded.{sub_asks, sub_gives}
use Rattle.reckon.specs.Rounding.{kept_of, difference_of}
use native.Mathlib.Omega.{arith}
use Rattle.reckon.proofs.difference.Goals as goal

pub overflow_sub-a : goal.overflow_sub-a
overflow_sub-a c = sub_asks c.args.a c.args.b (omega arith)

pub returns : goal.returns
unfolding difference_of
returns c = let a = c.args in c.kept_whole.ensures ∙ ap kept_of (sub_gives a.a a.b (omega arith))
