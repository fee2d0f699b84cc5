-- `notes::designator_after` meets its contract: what the command says picks the case.
-- Assumes nothing.
use Rattle.notes.proofs.Designators.{hears_silent, hears_deletes, hears_sets}
use Rattle.notes.proofs.designator_after.Goals as goal

pub returns-in-Silent : goal.returns-in-Silent
returns-in-Silent c = rw c.in-Silent.is (hears_silent _ _ _ c.requires _)

pub returns-in-Deletes : goal.returns-in-Deletes
returns-in-Deletes c = rw c.in-Deletes.is (hears_deletes _ _ _ c.requires _)

pub returns-in-Sets : goal.returns-in-Sets
returns-in-Sets c =
    rw c.in-Sets.is (hears_sets _ _ _ c.requires _ _ _ c.first_field-p.ensures c.designate.ensures)
