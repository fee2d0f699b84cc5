-- `host::sheet_shape_record` meets its contract.
-- Assumes nothing.
use Rattle.std.specs.Prelude.{Result}
use mathlib.Core.Path.{◌∙◌, ap}
use Rattle.shapes.specs.Shapes.{lookup_number, lookup_shape}
use Rattle.host.specs.Shapes.{shape_words}
use Rattle.host.proofs.sheet_shape_record.Goals as goal
use Rattle.shapes.specs.declared.Shape.{Shape}
use Rattle.shapes.specs.declared.LookupError.{LookupError}

pub returns : goal.returns
returns c =
    let e = c.shape_at-l.ensures in
    (c.lookup_number.ensures ∙ ap lookup_number e, c.shape_words.ensures ∙ ap (λ (l : Result Shape LookupError). shape_words (lookup_shape l)) e)
