-- `wide::positive` meets its contract: a number is above zero where it has no minus and a word of it is not 0.
use mathlib.Core.Path.{ap, ◌∙◌}
use mathlib.Core.Bool.{not}
use native.Mathlib.Omega.{arith}
use Rattle.base.proofs.And.{ands, and_is}
use Rattle.wide.proofs.Sizes.{positive_is}
use Rattle.wide.proofs.positive.Goals as goal

pub returns-then-not-x : goal.returns-then-not-x
returns-then-not-x c = c.ne.ensures ∙ ap not (and_is _ _) ∙ (simp (c.if-not-x.true, ands) at (positive_is c.args.x (omega arith)))

pub returns-else-not-x : goal.returns-else-not-x
returns-else-not-x c = ap not c.if-not-x.false ∙ (simp (c.if-not-x.false, ands) at (positive_is c.args.x (omega arith)))
