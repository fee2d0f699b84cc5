-- `list_writing::pin_row` meets its contract: its pieces one after the other.
-- Assumes nothing.
use Rattle.law_components.proofs.Written.{behind, is_also}
use Rattle.law_components.proofs.Rows.{pin_pieces}
use Rattle.list_writing.proofs.pin_row.Goals as goal

pub returns : goal.returns
returns c =
    is_also (pin_pieces _ _) (behind c.write_field-a.ensures (behind c.write_point-b.ensures c.write.ensures))
