-- `operations::raised_fields` meets its contract: each field is read after the one before it.
-- Assumes nothing.
use Rattle.operations.specs.Coordinates.{fields_in}
use Rattle.operations.proofs.raised_fields.Goals as goal

pub returns : goal.returns
unfolding fields_in
returns c = cc
