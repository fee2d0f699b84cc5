-- `text::after` meets its contract: `from_on_lem` leaves out what `find` answers, then one byte more.
-- Assumes nothing.
use Rattle.text.specs.First.{after_byte}
use Rattle.text.proofs.after.Goals as goal

pub returns : goal.returns
unfolding after_byte
returns c = cc
