-- `primitives::is_outline` meets its contract: its tests are those of `outline`.
-- Assumes nothing.
use Rattle.primitives.specs.Rules.{outline}
use Rattle.primitives.proofs.is_outline.Goals as goal

pub returns : goal.returns
unfolding outline
returns c = cc
