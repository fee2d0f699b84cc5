-- `notes::function_after` meets its contract: what the command says picks the case.
-- Assumes nothing.
use Rattle.notes.proofs.Fields.{function_silent, function_deletes, function_sets}
use Rattle.notes.specs.Functions.{function_is}
use mathlib.Core.Path.{ap, ◌∙◌}
use Rattle.notes.proofs.function_after.Goals as goal

pub returns-in-Silent : goal.returns-in-Silent
returns-in-Silent c = rw c.in-Silent.is (function_silent _ _)

pub returns-in-Deletes : goal.returns-in-Deletes
returns-in-Deletes c = rw c.in-Deletes.is (function_deletes _ _)

pub returns-in-Sets : goal.returns-in-Sets
returns-in-Sets c = rw c.in-Sets.is (function_sets _ _ c.first_field-p.ensures (c.function_is.ensures ∙ ap function_is c.part.ensures))
