-- `primitives::one_more` meets its contract: field by field it is `added`.
-- Assumes nothing.
use Rattle.primitives.specs.Asked.{added}
use Rattle.primitives.proofs.one_more.Goals as goal

pub returns : goal.returns
unfolding added
returns c = cc
