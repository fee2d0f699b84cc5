-- `expression::sign_at` meets its contract: `follows` says so of the token there.
-- Assumes nothing.
use Rattle.expression.specs.Grammar.{plus_minus}
use Rattle.expression.proofs.Seen.{follows}
use mathlib.Core.Path.{refl}
use Rattle.expression.proofs.sign_at.Goals as goal

pub returns : goal.returns
unfolding plus_minus
returns c =
    let s = c.args.s.now in
    rw (c.operator_of.ensures, c.plus_minus.ensures, c.token_at-l.ensures) (follows s c.args.at plus_minus refl)
