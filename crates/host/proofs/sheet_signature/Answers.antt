-- `host::sheet_signature` meets its contract.
use Rattle.host.proofs.sheet_signature.Goals as goal

pub returns : goal.returns
returns c =
    let e = c.signature-s.ensures in
    (λ i. (e i).number, λ i. (e i).place, λ i. (e i).digest)
