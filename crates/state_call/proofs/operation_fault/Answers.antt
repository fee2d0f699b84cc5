-- `state_call::operation_fault` meets its contract, case by case.
-- Assumes nothing.
use mathlib.Core.Path.{sym, ap, ◌∙◌}
use Rattle.state_call.specs.Stepped.{operation_fault}
use Rattle.state_call.proofs.operation_fault.Goals as goal

pub returns-in-Draw : goal.returns-in-Draw
unfolding operation_fault
returns-in-Draw c = let a = c.args in c.draw_fault.ensures ∙ sym (ap (λ o. operation_fault a.g a.l o a.k) c.in-Draw.is)

pub returns-in-Move : goal.returns-in-Move
unfolding operation_fault
returns-in-Move c = let a = c.args in c.move_fault.ensures ∙ sym (ap (λ o. operation_fault a.g a.l o a.k) c.in-Move.is)

pub returns-in-Flash : goal.returns-in-Flash
unfolding operation_fault
returns-in-Flash c = let a = c.args in c.flash_fault.ensures ∙ sym (ap (λ o. operation_fault a.g a.l o a.k) c.in-Flash.is)
