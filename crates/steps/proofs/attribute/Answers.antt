-- `steps::attribute` meets its contract: TF by its function's promise, the others because they are commands that keep the rooms.
-- Assumes nothing.
use mathlib.Core.Path.{ap}
use Rattle.command.specs.declared.Command.TheVariants.{Attribute}
use Rattle.law_reading.specs.Steps.{deed_step, step_of}
use Rattle.state_steps.specs.KeepsRooms.{keeps_rooms, deed_keeps_rooms}
use Rattle.steps.specs.Steps.{AgainBy}
use Rattle.steps.proofs.attribute.Goals as goal

pub set-requires : goal.set-requires
unfolding keeps_rooms deed_keeps_rooms
set-requires c = ap (λ d. keeps_rooms (Attribute d)) c.in-SetAperture.is

pub set-requires-in-SetObject : goal.set-requires-in-SetObject
unfolding keeps_rooms deed_keeps_rooms
set-requires-in-SetObject c = ap (λ d. keeps_rooms (Attribute d)) c.in-SetObject.is

pub set-requires-in-Delete : goal.set-requires-in-Delete
unfolding keeps_rooms deed_keeps_rooms
set-requires-in-Delete c = ap (λ d. keeps_rooms (Attribute d)) c.in-Delete.is

pub set-requires-in-DeleteAll : goal.set-requires-in-DeleteAll
unfolding keeps_rooms deed_keeps_rooms
set-requires-in-DeleteAll c = ap (λ d. keeps_rooms (Attribute d)) c.in-DeleteAll.is

pub returns-in-SetFile : goal.returns-in-SetFile
unfolding deed_step AgainBy
returns-in-SetFile c = λ text w s again k. rw c.in-SetFile.is (c.set_name.ensures _ w s (again _ _ c.in-SetFile.is) k)

pub returns-in-SetAperture : goal.returns-in-SetAperture
unfolding deed_step step_of
returns-in-SetAperture c = λ text w s again k. rw c.in-SetAperture.is (rw c.in-SetAperture.is at (c.set.ensures text 0 w s tt k))

pub returns-in-SetObject : goal.returns-in-SetObject
unfolding deed_step step_of
returns-in-SetObject c = λ text w s again k. rw c.in-SetObject.is (rw c.in-SetObject.is at (c.set-in-SetObject.ensures text 0 w s tt k))

pub returns-in-Delete : goal.returns-in-Delete
unfolding deed_step step_of
returns-in-Delete c = λ text w s again k. rw c.in-Delete.is (rw c.in-Delete.is at (c.set-in-Delete.ensures text 0 w s tt k))

pub returns-in-DeleteAll : goal.returns-in-DeleteAll
unfolding deed_step step_of
returns-in-DeleteAll c = λ text w s again k. rw c.in-DeleteAll.is (rw c.in-DeleteAll.is at (c.set-in-DeleteAll.ensures text 0 w s tt k))
