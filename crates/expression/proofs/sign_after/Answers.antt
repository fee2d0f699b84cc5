-- `expression::sign_after` meets its contract: after what is fine it is the operator there, after what is refused none.
-- Assumes nothing.
use Rattle.expression.specs.Grammar.{plus_minus}
use Rattle.expression.proofs.Told.{after_fine, after_refused}
use Rattle.expression.proofs.sign_after.Goals as goal

pub returns-then-w : goal.returns-then-w
returns-then-w c = after_fine plus_minus _ c.args.w c.sign_at.result c.if-w.true c.sign_at.ensures

pub returns : goal.returns
returns c = after_refused plus_minus _ c.args.w c.if-w.false
