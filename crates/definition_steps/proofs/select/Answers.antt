-- `definition_steps::select` meets its contract: a Dn that keeps its rules is known after it, any other has reading's fault.
use Rattle.std.specs.Prelude.{Err}
use Rattle.faults.proofs.Rules.{broken, kept}
use mathlib.Core.Path.{◌≡◌}
use borrow.Author.Rules.{rules}
use Rattle.definition_steps.proofs.Selecting.{select_refused, select_goes}
use Rattle.definition_steps.proofs.select.Goals as goal

pub aperture_with-chosen-requires : goal.aperture_with-chosen-requires
aperture_with-chosen-requires c = rw c.requires.is at c.requires.knows.apertures.indexed

pub returns-in_err-select_fault : goal.returns-in_err-select_fault
returns-in_err-select_fault c = λ w s is k. let r : c.from_residual.result ≡ Err c.in_err-select_fault.field-0.0 = search rules in rw r (select_refused w c.args.p s k c.args.n c.args.a.now is _ c.aperture_with-chosen.ensures _ c.select_fault.ensures _ (broken c.in_err-select_fault.was))

pub returns : goal.returns
returns c =
    λ w s is k. select_goes w c.args.p s k c.args.n c.args.a.now is _ c.aperture_with-chosen.ensures _ c.select_fault.ensures (kept c.in_ok-select_fault.was) c.with_aperture.ensures c.with_graphics.ensures
