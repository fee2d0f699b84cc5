-- `primitives::is_thermal` meets its contract: its tests are those of `thermal`.
-- Assumes nothing.
use Rattle.primitives.specs.Rules.{thermal}
use Rattle.primitives.proofs.is_thermal.Goals as goal

pub returns : goal.returns
unfolding thermal
returns c = cc
