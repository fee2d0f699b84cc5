-- `host::sheet_label` meets its contract.
-- Assumes nothing.
use mathlib.Core.Path.{◌∙◌}
use Rattle.host.specs.Shapes.{size_of}
use Rattle.host.proofs.sheet_label.Goals as goal

pub returns : goal.returns
returns c =
    let e = c.label_at-a.ensures in (
      λ i. (e i).number,
      λ i. (e i).label.name.from,
      c.size_of.ensures ∙ (λ i. size_of (e i).label.name),
      λ i. (e i).label.value.from,
      c.size_of-2.ensures ∙ (λ i. size_of (e i).label.value),
    )
