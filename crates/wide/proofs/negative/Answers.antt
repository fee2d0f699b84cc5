-- `wide::negative` meets its contract: a number is below zero where it has a minus and a word of it is not 0.
use mathlib.Core.Path.{ap, ◌∙◌}
use mathlib.Core.Bool.{not}
use native.Mathlib.Omega.{arith}
use Rattle.base.proofs.And.{ands, and_is}
use Rattle.wide.proofs.Sizes.{negative_is}
use Rattle.wide.proofs.negative.Goals as goal

pub returns-then-x : goal.returns-then-x
returns-then-x c = c.ne.ensures ∙ ap not (and_is _ _) ∙ (simp (c.if-x.true, ands) at (negative_is c.args.x (omega arith)))

pub returns-else-x : goal.returns-else-x
returns-else-x c = c.if-x.false ∙ (simp (c.if-x.false, ands) at (negative_is c.args.x (omega arith)))
