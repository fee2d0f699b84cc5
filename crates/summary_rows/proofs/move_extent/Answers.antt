-- `summary_rows::move_extent` meets its contract: each arm is a case of `moved_extent`.
use Rattle.summary_rows.specs.Rows.{moved_extent}
use Rattle.summary_rows.proofs.Rows.{over_near}
use Rattle.summary_rows.proofs.move_extent.Goals as goal

pub move_rect-requires : goal.move_rect-requires
move_rect-requires c = (c.requires.0, over_near c.requires.1 c.in-Some.is)

pub returns-in-None : goal.returns-in-None
unfolding moved_extent
returns-in-None c = rw c.in-None.is

pub returns-in-Some : goal.returns-in-Some
unfolding moved_extent
returns-in-Some c = rw (c.in-Some.is, c.move_rect.ensures)
