-- `expression::times_after` meets its contract: after what is fine it is the operator there, after what is refused none.
-- Assumes nothing.
use Rattle.expression.specs.Grammar.{times_over}
use Rattle.expression.proofs.Told.{after_fine, after_refused}
use Rattle.expression.proofs.times_after.Goals as goal

pub returns-then-w : goal.returns-then-w
returns-then-w c = after_fine times_over _ c.args.w c.times_at.result c.if-w.true c.times_at.ensures

pub returns : goal.returns
returns c = after_refused times_over _ c.args.w c.if-w.false
