-- `list_writing::main_row` meets its contract: its pieces one after the other.
-- Assumes nothing.
use Rattle.law_components.proofs.Written.{behind, is_also}
use Rattle.law_components.proofs.Rows.{main_pieces}
use Rattle.list_writing.proofs.main_row.Goals as goal

pub shape_of-out : goal.shape_of-out
shape_of-out c =
    let w = behind c.write-a.ensures (behind c.write_point-b.ensures (behind c.write_field-c.ensures (behind c.write_field-d.ensures (behind c.write_field-e.ensures (behind c.write_field-f.ensures c.write.ensures))))) in w.long

pub returns : goal.returns
returns c =
    is_also (main_pieces _ _ _ _ _ _) (behind c.write-a.ensures (behind c.write_point-b.ensures (behind c.write_field-c.ensures (behind c.write_field-d.ensures (behind c.write_field-e.ensures (behind c.write_field-f.ensures c.write.ensures))))))
