-- `noting::note_command` meets its contract: each part of what is known is followed by the function that it is asked of.
-- Assumes nothing.
use Rattle.noting.proofs.Known.{set_few, apertures_few}
use Rattle.noting.proofs.Hearing.{command_noted}
use Rattle.attribute_call.specs.declared.Kind.TheVariants as kind
use Rattle.attribute_call.specs.Sayings.{saying_of}
use Rattle.text.specs.Text.{text}
use native.Mathlib.Omega.{arith}
use mathlib.Core.Path.{◌≡◌}
use Rattle.base.specs.Or.{◌or◌}
use Rattle.base.proofs.Or.{ors}
use Rattle.noting.proofs.note_command.Goals.{then-n, else-n}
use Rattle.noting.proofs.note_command.Goals as goal

pub overflow_add-result : goal.overflow_add-result
overflow_add-result c =
    let A = c.args in
    omega (arith, c.requires.0.settings, c.hear-heard.ensures.settings, set_few (saying_of A.file.now kind.Object (text ".C") A.c), set_few (saying_of A.file.now kind.Object (text ".P") A.c))

pub overflow_add-result-2 : goal.overflow_add-result-2
overflow_add-result-2 c =
    omega (arith, c.requires.0.apertures, c.apertures_by.ensures, apertures_few c.made_of-made.result)

pub shape_of-notes : goal.shape_of-notes
shape_of-notes c = c.note_operation-operations.auto.notes

pub shape_of-roles : goal.shape_of-roles
shape_of-roles c = c.note_aperture-used.auto.roles

pub returns : goal.returns
returns c =
    let says : c.if-n.result ≡ (c.args.n.component or c.declares-declared.result) =
    elim c.if-n.branch [ then-n w ↦ simp (w.result-is, w.if-n.true, ors) | else-n w ↦ simp (w.result-is, w.if-n.false, ors) ] in
    command_noted c.args.file.now c.args.n c.args.c c.made_of-made.ensures c.placed_at.ensures c.note_operation-operations.ensures
    c.note_aperture-used.ensures c.part.ensures c.declares-declared.ensures says c.hear-heard.ensures c.saying_of-s.ensures
    c.function_after-function.ensures c.apertures_by.ensures
