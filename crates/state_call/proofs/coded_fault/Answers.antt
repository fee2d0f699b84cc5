-- `state_call::coded_fault` meets its contract: the operation is judged in the state after the code, and of the two faults `sooner` decides.
-- Assumes nothing.
use mathlib.Core.Path.{sym, ap, ◌∙◌}
use Rattle.graphics.specs.declared.Graphics.{Graphics}
use Rattle.faults.specs.Order.{sooner}
use Rattle.faults.specs.Rule.{number_told}
use Rattle.faults.proofs.Rules.{broken, kept, first_told, only_first}
use Rattle.state_call.specs.Stepped.{operation_fault, coded_fault}
use Rattle.state_call.proofs.coded_fault.Goals as goal

pub returns-in-Ok : goal.returns-in-Ok
unfolding coded_fault
returns-in-Ok c =
    let a = c.args in
    let first = c.setting_fault-first.ensures in
    let behind = ap (λ (g : Graphics). operation_fault g a.l a.o a.k) c.after_setting.ensures in
    let then = sym (kept c.in-Ok.is) ∙ c.operation_fault.ensures ∙ behind in
    only_first _ ∙ (λ i. sooner (first i) (then i))

pub returns-in-Err : goal.returns-in-Err
unfolding coded_fault number_told
returns-in-Err c =
    let a = c.args in
    let first = c.setting_fault-first.ensures in
    let behind = ap (λ (g : Graphics). operation_fault g a.l a.o a.k) c.after_setting.ensures in
    let then = broken c.in-Err.is ∙ c.operation_fault.ensures ∙ behind in
    rw c.first_of.ensures (first_told _ _ ∙ (λ i. sooner (first i) (then i)))
