-- `text::before` meets its contract: `up_to` takes what `find` answers.
-- Assumes nothing.
use Rattle.text.specs.First.{before_byte}
use Rattle.text.proofs.before.Goals as goal

pub returns : goal.returns
unfolding before_byte
returns c = cc
