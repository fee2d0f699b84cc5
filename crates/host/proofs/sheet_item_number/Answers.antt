-- `host::sheet_item_number` meets its contract.
use mathlib.Core.Path.{ap}
use Rattle.address.specs.declared.Reply.{Reply}
use Rattle.host.proofs.sheet_item_number.Goals as goal

pub returns : goal.returns
returns c = (ap (λ (r : Reply). r.number) c.item_of-r.ensures, ap (λ (r : Reply). r.item) c.item_of-r.ensures)
