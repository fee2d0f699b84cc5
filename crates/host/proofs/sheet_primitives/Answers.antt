-- `host::sheet_primitives` meets its contract.
-- Assumes nothing.
use mathlib.Core.Path.{◌∙◌, ap}
use Rattle.shapes.specs.Runs.{fetch_number}
use Rattle.host.proofs.sheet_primitives.Goals as goal

pub returns : goal.returns
returns c = (c.primitives_number.ensures ∙ ap fetch_number c.primitives_of-f.ensures.0, c.primitives_of-f.ensures.1)
