-- `primitives::is_circle` meets its contract: its tests are those of `circle`.
-- Assumes nothing.
use Rattle.primitives.specs.Rules.{circle}
use Rattle.primitives.proofs.is_circle.Goals as goal

pub returns : goal.returns
unfolding circle
returns c = cc
