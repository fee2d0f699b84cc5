-- `primitives::is_polygon` meets its contract: its tests are those of `polygon`.
-- Assumes nothing.
use Rattle.primitives.specs.Rules.{polygon}
use Rattle.primitives.proofs.is_polygon.Goals as goal

pub returns : goal.returns
unfolding polygon
returns c = cc
