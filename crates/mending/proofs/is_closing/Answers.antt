-- `mending::is_closing` meets its contract: the calls are the parts of `closing`.
-- Assumes nothing.
use Rattle.mending.specs.Extents.{closing}
use Rattle.mending.proofs.is_closing.Goals as goal

pub returns : goal.returns
unfolding closing
returns c = cc
