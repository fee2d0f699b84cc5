-- `ints::with_sign` meets its contract: the size read as a number, and taken from zero where there is a minus.
use mathlib.Core.Path.{ap, ◌∙◌}
use lib.IntN.{pos, nat_abs}
use Rattle.ints.specs.Ints.{signed}
use Rattle.ints.proofs.Bounded.{neg_gives, pos_bits, abs_neg}
use Rattle.ints.proofs.with_sign.Goals as goal

pub returns-then-minus : goal.returns-then-minus
unfolding signed
returns-then-minus c = let e = neg_gives (pos c.args.v) c.requires in
    (rw c.if-minus.true e, ap nat_abs e ∙ abs_neg (pos c.args.v))

pub returns-else-minus : goal.returns-else-minus
unfolding signed
returns-else-minus c = let e = pos_bits c.args.v c.requires in (rw c.if-minus.false e, ap nat_abs e)
