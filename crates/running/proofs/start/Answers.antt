-- `running::start` meets its contract.
-- Assumes nothing.
use mathlib.Core.Path.{refl}
use Rattle.running.proofs.start.Goals as goal

pub returns : goal.returns
unfolding Rattle.running.specs.Ends.start
returns c = rw (c.start.ensures, c.is_old.ensures) refl
