-- `operations::exact_fields` meets its contract: each field is read after the one before it.
-- Assumes nothing.
use Rattle.operations.specs.Coordinates.{fields_in}
use Rattle.operations.proofs.exact_fields.Goals as goal

pub returns : goal.returns
unfolding fields_in
returns c f e =
    let j = c.exact_at-j.ensures f e in
    let i = c.exact_at-i.ensures f e in
    let y = c.exact_at-y.ensures f e in
    let x = c.exact_at-x.ensures f e in
    cc
