-- `state_call::deed_fault` meets its contract, case by case.
-- Assumes nothing.
use mathlib.Core.Path.{sym, ap, ◌∙◌}
use Rattle.state_call.specs.Stepped.{deed_fault}
use Rattle.state_call.proofs.deed_fault.Goals as goal

pub returns-in-SetFile : goal.returns-in-SetFile
unfolding deed_fault
returns-in-SetFile c = let a = c.args in c.file_attribute_fault.ensures ∙ sym (ap (λ d. deed_fault a.g d a.k) c.in-SetFile.is)

pub returns-in-SetAperture : goal.returns-in-SetAperture
unfolding deed_fault
returns-in-SetAperture c = let a = c.args in c.region_fault.ensures ∙ sym (ap (λ d. deed_fault a.g d a.k) c.in-SetAperture.is)

pub returns-in-SetObject : goal.returns-in-SetObject
unfolding deed_fault
returns-in-SetObject c = let a = c.args in c.region_fault-in-SetObject.ensures ∙ sym (ap (λ d. deed_fault a.g d a.k) c.in-SetObject.is)

pub returns-in-Delete : goal.returns-in-Delete
unfolding deed_fault
returns-in-Delete c = let a = c.args in c.region_fault-in-Delete.ensures ∙ sym (ap (λ d. deed_fault a.g d a.k) c.in-Delete.is)

pub returns-in-DeleteAll : goal.returns-in-DeleteAll
unfolding deed_fault
returns-in-DeleteAll c = let a = c.args in c.region_fault-in-DeleteAll.ensures ∙ sym (ap (λ d. deed_fault a.g d a.k) c.in-DeleteAll.is)
