-- `notes::second_field` meets its contract: after the first comma there is a value again, and its first field is the second.
-- Assumes nothing.
use mathlib.Core.Path.{ap, ◌∙◌}
use native.Mathlib.Omega.{arith}
use lib.ListN.{take}
use Rattle.notes.proofs.Fields.{second_within, second_there, second_nowhere}
use Rattle.notes.proofs.second_field.Goals as goal

pub overflow_add-place : goal.overflow_add-place
overflow_add-place c = omega (arith, second_within _ c.args.place c.args.length (c.up_to-value.ensures ∙ ap (take c.args.length) c.from_on.ensures) c.find-comma.ensures c.if-comma-value.true)

pub overflow_add-place-then-comma-value : goal.overflow_add-place-then-comma-value
overflow_add-place-then-comma-value c = omega (arith, second_within _ c.args.place c.args.length (c.up_to-value.ensures ∙ ap (take c.args.length) c.from_on.ensures) c.find-comma.ensures c.if-comma-value.true)

pub returns-then-comma-value : goal.returns-then-comma-value
returns-then-comma-value c =
    let A = c.args in
    second_there A.file.now A.place A.length (c.up_to-value.ensures ∙ ap (take A.length) c.from_on.ensures) c.find-comma.ensures c.if-comma-value.true c.first_field.ensures

pub returns : goal.returns
returns c =
    let A = c.args in
    second_nowhere A.file.now A.place A.length (c.up_to-value.ensures ∙ ap (take A.length) c.from_on.ensures) c.find-comma.ensures c.if-comma-value.false c.nowhere.ensures
