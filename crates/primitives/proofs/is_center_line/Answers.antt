-- `primitives::is_center_line` meets its contract: its tests are those of `center_line`.
-- Assumes nothing.
use Rattle.primitives.specs.Rules.{center_line}
use Rattle.primitives.proofs.is_center_line.Goals as goal

pub returns : goal.returns
unfolding center_line
returns c = cc
