-- `fields::does_begin_text` meets its contract: the two tests are those of `begins_text`.
-- Assumes nothing.
use Rattle.fields.specs.Parts.{begins_text}
use Rattle.fields.proofs.does_begin_text.Goals as goal

pub returns : goal.returns
unfolding begins_text
returns c = cc
