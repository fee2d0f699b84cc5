-- `state_steps::set_name` meets its contract: nothing changes but that the name is set.
use Rattle.std.specs.Prelude.{Err}
use mathlib.Core.Path.{◌≡◌, sym, ◌∙◌}
use borrow.Author.Rules.{rules}
use Rattle.faults.proofs.Rules.{broken, kept}
use Rattle.state_steps.proofs.Sets.{name_refuses, name_goes_on}
use Rattle.state_steps.proofs.set_name.Goals as goal

pub returns-in_err-file_attribute_fault : goal.returns-in_err-file_attribute_fault
returns-in_err-file_attribute_fault c name w s e k =
    let r : c.from_residual.result ≡ Err c.in_err-file_attribute_fault.field-0.0 = search rules in
    rw r (name_refuses _ name _ w s e k _ c.file_attribute_fault.ensures _ (broken c.in_err-file_attribute_fault.was))

pub returns : goal.returns
returns c name w s e k = name_goes_on _ name _ w s e k (sym c.file_attribute_fault.ensures ∙ kept c.in_ok-file_attribute_fault.was)
