-- `host::sheet_items` meets its contract.
use mathlib.Core.Path.{◌∙◌, ap}
use Rattle.descend.specs.Slots.{fetch_number}
use Rattle.host.proofs.sheet_items.Goals as goal

pub returns : goal.returns
returns c = (c.fetch_number.ensures ∙ ap fetch_number c.sheet_run-f.ensures.0, c.sheet_run-f.ensures.1)
