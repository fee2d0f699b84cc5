-- `host::sheet_aperture_attribute` meets its contract.
use Rattle.host.proofs.sheet_aperture_attribute.Goals as goal

pub returns : goal.returns
returns c =
    let e = c.attribute-a.ensures in
    (λ i. (e i).number, λ i. (e i).place, λ i. (e i).length)
