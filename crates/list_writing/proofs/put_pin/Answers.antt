-- `list_writing::put_pin` meets its contract: the note says where the number lies.
-- Assumes nothing.
use Prim.Native.Nat.{ℕ}
use mathlib.Core.List.{List}
use mathlib.Core.Path.{ap}
use Rattle.list_writing.specs.Rows.{pin_by}
use Rattle.law_components.specs.Records.{pin_row}
use Rattle.law_components.proofs.Written.{is_also}
use Rattle.list_writing.proofs.put_pin.Goals as goal

pub returns : goal.returns
unfolding pin_by
returns c =
    is_also (ap (λ (t : List ℕ). pin_row t c.args.s.end) c.part.ensures) c.pin_row.ensures
