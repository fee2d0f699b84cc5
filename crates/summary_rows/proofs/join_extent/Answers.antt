-- `summary_rows::join_extent` meets its contract: each arm is a case of `joined`.
use Rattle.summary_rows.specs.Rows.{joined}
use Rattle.summary_rows.proofs.join_extent.Goals as goal

pub returns-in-None : goal.returns-in-None
unfolding joined
returns-in-None c = rw c.in-None.is

pub returns-in-None-y : goal.returns-in-None-y
unfolding joined
returns-in-None-y c = rw (c.in-Some.is, c.in-None-y.is)

pub returns-in-Some-y : goal.returns-in-Some-y
unfolding joined
returns-in-Some-y c = rw (c.in-Some.is, c.in-Some-y.is, c.join_rect.ensures)
