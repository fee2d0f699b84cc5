-- `primitives::is_vector_line` meets its contract: its tests are those of `vector_line`.
-- Assumes nothing.
use Rattle.primitives.specs.Rules.{vector_line}
use Rattle.primitives.proofs.is_vector_line.Goals as goal

pub returns : goal.returns
unfolding vector_line
returns c = cc
