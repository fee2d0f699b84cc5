-- `primitives::whole_between` meets its contract: its tests are those of `whole_between`.
-- Assumes nothing.
use Rattle.primitives.specs.Rules.{whole_between}
use Rattle.primitives.proofs.whole_between.Goals as goal

pub returns : goal.returns
unfolding whole_between
returns c = cc
