-- `mending::is_repeat` meets its contract: the calls are the parts of `repeats`.
-- Assumes nothing.
use Rattle.mending.specs.Changes.{repeats}
use Rattle.mending.proofs.is_repeat.Goals as goal

pub returns : goal.returns
unfolding repeats
returns c = cc
