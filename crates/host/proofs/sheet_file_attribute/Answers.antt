-- `host::sheet_file_attribute` meets its contract.
-- Assumes nothing.
use mathlib.Core.Path.{◌∙◌}
use Rattle.host.specs.Shapes.{size_of}
use Rattle.host.proofs.sheet_file_attribute.Goals as goal

pub returns : goal.returns
returns c =
    let e = c.label_named-a.ensures in
    (λ i. (e i).number, λ i. (e i).label.value.from, c.size_of.ensures ∙ (λ i. size_of (e i).label.value))
