-- `host::sheet_object_attribute` meets its contract.
use Rattle.host.proofs.sheet_object_attribute.Goals as goal

pub returns : goal.returns
returns c =
    let e = c.attribute-a.ensures in
    (λ i. (e i).number, λ i. (e i).place, λ i. (e i).length)
