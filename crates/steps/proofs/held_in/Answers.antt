-- `steps::held_in` meets its contract, role by role.
-- Assumes nothing.
use Rattle.steps.specs.Coded.{held_in}
use mathlib.Core.Path.{sym, ap}
use Rattle.steps.proofs.held_in.Goals as goal

pub returns-in-Operate : goal.returns-in-Operate
unfolding held_in
returns-in-Operate c = sym (ap held_in c.in-Operate.is)

pub returns-in-Coded : goal.returns-in-Coded
unfolding held_in
returns-in-Coded c = sym (ap held_in c.in-Coded.is)

pub returns-in-Broken : goal.returns-in-Broken
unfolding held_in
returns-in-Broken c = sym (ap held_in c.in-Broken.is)

pub returns-in-Note : goal.returns-in-Note
unfolding held_in
returns-in-Note c = sym (ap held_in c.in-Note.is)

pub returns-in-End : goal.returns-in-End
unfolding held_in
returns-in-End c = sym (ap held_in c.in-End.is)

pub returns-in-Set : goal.returns-in-Set
unfolding held_in
returns-in-Set c = sym (ap held_in c.in-Set.is)

pub returns-in-Select : goal.returns-in-Select
unfolding held_in
returns-in-Select c = sym (ap held_in c.in-Select.is)

pub returns-in-Define : goal.returns-in-Define
unfolding held_in
returns-in-Define c = sym (ap held_in c.in-Define.is)

pub returns-in-Contain : goal.returns-in-Contain
unfolding held_in
returns-in-Contain c = sym (ap held_in c.in-Contain.is)

pub returns-in-Attribute : goal.returns-in-Attribute
unfolding held_in
returns-in-Attribute c = sym (ap held_in c.in-Attribute.is)
