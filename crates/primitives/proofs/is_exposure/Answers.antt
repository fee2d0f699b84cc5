-- `primitives::is_exposure` meets its contract: its tests are those of `exposure`.
-- Assumes nothing.
use Rattle.primitives.specs.Rules.{exposure}
use Rattle.primitives.proofs.is_exposure.Goals as goal

pub returns : goal.returns
unfolding exposure
returns c = cc
