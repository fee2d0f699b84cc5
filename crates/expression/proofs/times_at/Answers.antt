-- `expression::times_at` meets its contract: `follows` says so of the token there.
-- Assumes nothing.
use Rattle.expression.specs.Grammar.{times_over}
use Rattle.expression.proofs.Seen.{follows}
use mathlib.Core.Path.{refl}
use Rattle.expression.proofs.times_at.Goals as goal

pub returns : goal.returns
unfolding times_over
returns c =
    let s = c.args.s.now in
    rw (c.operator_of.ensures, c.times_over.ensures, c.token_at-l.ensures) (follows s c.args.at times_over refl)
