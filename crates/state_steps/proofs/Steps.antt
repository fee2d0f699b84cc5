-- The step of a command that keeps the rooms: its fault, and the graphics state after it.
-- Assumes nothing.
use Prim.Native.Nat.{ℕ}
use mathlib.Core.Path.{◌≡◌, refl}
use mathlib.Core.Bool.{true, false≢true}
use mathlib.Core.List.{List}
use Rattle.command.specs.declared.Deed.{Deed}
use Rattle.command.specs.declared.Deed.TheVariants as deed
use Rattle.command.specs.declared.Command.{Command}
use Rattle.command.specs.declared.Command.TheVariants.{Broken, Note, End, Set, Operate, Coded, Select, Define, Contain, Attribute}
use Rattle.changes.specs.After.{after}
use Rattle.law_reading.specs.State.{Room, State}
use Rattle.law_reading.specs.Steps.{does, with_graphics, setting_step, deed_step, step_of}
use Rattle.state_steps.specs.KeepsRooms.{deed_keeps_rooms, keeps_rooms, deed_fault, fault_of}

module _ (room : Room) (text : List ℕ) (place : ℕ) (s : State) where
  deed_step_lem : (d : Deed) → deed_keeps_rooms d ≡ true → deed_step text d s ≡ does (deed_fault s.graphics d) s
  unfolding deed_keeps_rooms deed_step deed_fault
  deed_step_lem (deed.SetFile name value) q = absurd (false≢true q)
  deed_step_lem (deed.SetAperture name value) q = refl
  deed_step_lem (deed.SetObject name value) q = refl
  deed_step_lem (deed.Delete name) q = refl
  deed_step_lem deed.DeleteAll q = refl

  pub state_step :
      (c : Command)
      → keeps_rooms c ≡ true
      → step_of room text place c s ≡ does (fault_of s.graphics s.level c) (with_graphics (after c s.graphics) s)
  unfolding keeps_rooms step_of setting_step fault_of after with_graphics
  state_step (Broken flaw) q = refl
  state_step Note q = refl
  state_step End q = refl
  state_step (Set x) q = refl
  state_step (Operate o) q = absurd (false≢true q)
  state_step (Coded code o) q = absurd (false≢true q)
  state_step (Attribute d) q = deed_step_lem d q
  state_step (Select n) q = absurd (false≢true q)
  state_step (Define d) q = absurd (false≢true q)
  state_step (Contain b) q = absurd (false≢true q)
