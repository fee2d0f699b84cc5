-- `summary_rows::copy_extent` meets its contract: each arm is a case of `copied_extent`.
use Rattle.summary_rows.specs.Rows.{copied_extent}
use Rattle.summary_rows.proofs.Rows.{over_near}
use Rattle.summary_rows.proofs.copy_extent.Goals as goal

pub stretch_rect-requires : goal.stretch_rect-requires
stretch_rect-requires c =
    let w = c.requires in (over_near w.0 c.in-Some.is, w.1.across_in, w.1.up_in)

pub returns-in-None : goal.returns-in-None
unfolding copied_extent
returns-in-None c = rw c.in-None.is

pub returns-in-Some : goal.returns-in-Some
unfolding copied_extent
returns-in-Some c = rw (c.in-Some.is, c.stretch_rect.ensures)
