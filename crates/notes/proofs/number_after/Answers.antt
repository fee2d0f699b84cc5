-- `notes::number_after` meets its contract: what the command says picks the case.
-- Assumes nothing.
use Rattle.notes.proofs.Fields.{silent, deletes, sets}
use Rattle.notes.proofs.number_after.Goals as goal

pub returns-in-Silent : goal.returns-in-Silent
returns-in-Silent c = rw c.in-Silent.is (silent _ _ _)

pub returns-in-Deletes : goal.returns-in-Deletes
returns-in-Deletes c = rw c.in-Deletes.is (deletes _ _ _ c.nowhere.ensures)

pub returns-in-Sets : goal.returns-in-Sets
returns-in-Sets c = rw c.in-Sets.is (sets _ _ _ c.second_field.ensures)
