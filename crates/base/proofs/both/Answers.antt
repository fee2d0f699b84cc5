-- `base::both` meets its contract: the first test picks the case of `_and_`.
use Rattle.base.proofs.And.{ands}
use Rattle.base.proofs.both.Goals as goal

pub returns-then-a : goal.returns-then-a
returns-then-a c = simp (c.if-a.true, ands)

pub returns-else-a : goal.returns-else-a
returns-else-a c = simp (c.if-a.false, ands)
