-- `operations::moved` meets its contract: it is judged as `without_offset` says.
-- Assumes nothing.
use Rattle.operations.specs.Operations.{move}
use Rattle.operations.proofs.moved.Goals as goal

pub returns : goal.returns
unfolding move
returns c = cc
