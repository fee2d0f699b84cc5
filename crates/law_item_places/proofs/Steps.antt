-- Every command leaves marks at its own place, and only D01 and D03 leave items.
-- Assumes nothing.
use Rattle.std.specs.Prelude.{Option, ℤ}
use Prim.Native.Nat.{ℕ}
use mathlib.Core.Path.{◌≡◌, refl}
use mathlib.Core.Bool.{Bool, true, false, cond}
use mathlib.Core.List.{List, [], ◌∷◌}
use Rattle.command.specs.declared.Operation.{Operation}
use Rattle.command.specs.declared.Operation.TheVariants as operation
use Rattle.command.specs.declared.Definition.{Definition}
use Rattle.command.specs.declared.Definition.TheVariants as definition
use Rattle.command.specs.declared.Bracket.{Bracket}
use Rattle.command.specs.declared.Bracket.TheVariants as bracket
use Rattle.command.specs.declared.Deed.{Deed}
use Rattle.command.specs.declared.Deed.TheVariants as deed
use Rattle.command.specs.declared.Command.{Command}
use Rattle.command.specs.declared.Command.TheVariants.{Broken, Note, End, Set, Operate, Coded, Select, Define, Contain, Attribute}
use Rattle.place.specs.Mark as mark
use Rattle.graphics.specs.declared.Graphics.{Graphics}
use Rattle.changes.specs.After.{target, starts_contour}
use Rattle.marks.specs.Items.{drawn, edge, contour, flashed, pose}
use Rattle.marks.specs.Marks.{draw_marks, flash_marks, operation_marks, bracket_marks, marks_of}
use Rattle.law_reading.specs.State as opened
use Rattle.law_reading.specs.State.{Room, Opened, State}
use Rattle.law_reading.specs.Steps.{
  passed,
  with_graphics,
  with_level,
  with_opened,
  with_apertures,
  with_macros,
  with_names,
  with_numbers,
  draw_step,
  flash_step,
  select_step,
  aperture_step,
  macro_step,
  block_start_step,
  repeat_start_step,
  block_ends,
  repeat_ends,
  block_end_step,
  repeat_end_step,
  file_attribute_step,
  setting_step,
  move_step,
  operation_step,
  coded_step,
  definition_step,
  bracket_step,
  deed_step,
  step_of,
}
use Rattle.layer.specs.Made.{made_by_operation, made_of}
use Rattle.layer.specs.declared.Made.TheVariants.{Item}
use Rattle.law_item_places.proofs.Plain.{draws, contours, edges, flashes, opens, closes, AllMarked, unmarked, marked_more, marks_append}
use Rattle.command.specs.declared.Offset.{Offset}

module _ (P : ℕ → Type 0) (room : Room) (t : List ℕ) (place : ℕ) where
  draw_marked : (g : Graphics) (x y : Option ℤ) (o : Option Offset) → P place → AllMarked P (draw_marks g x y o place)
  unfolding draw_marks drawn edge contour
  draw_marked g x y o p = go g.region.on (starts_contour g.region)
    where
      go : (on starts : Bool) → AllMarked P
          (cond on
          (cond starts (mark.contour (contour g place) ∷ mark.edge (edge g (target g x y) o place) ∷ []) (mark.edge (edge g (target g x y) o place) ∷ []))
          (mark.draw (drawn g (target g x y) o place) ∷ []))
      go true true = marked_more (contours p) (marked_more (edges p) unmarked)
      go true false = marked_more (edges p) unmarked
      go false starts = marked_more (draws p) unmarked

  flash_marked : (g : Graphics) (x y : Option ℤ) → P place → AllMarked P (flash_marks g x y place)
  unfolding flash_marks flashed
  flash_marked g x y p = go g.aperture.block
    where
      go : (t : Bool) → AllMarked P (cond t (mark.flash g.aperture.number (pose g (target g x y)) place ∷ []) (mark.draw (flashed g (target g x y) place) ∷ []))
      go true = marked_more flashes unmarked
      go false = marked_more (draws p) unmarked

  operation_marked : (o : Operation) (s : State) → (made_by_operation o ≡ Item → P place) → AllMarked P s.marks → AllMarked P (operation_step room place o s).next.marks
  unfolding operation_step draw_step move_step flash_step passed with_graphics with_level marks_of operation_marks made_by_operation
  operation_marked (operation.Draw x y o) s p w = marks_append w (draw_marked s.graphics x y o (p refl))
  operation_marked (operation.Move x y) s p w = w
  operation_marked (operation.Flash x y) s p w = marks_append w (flash_marked s.graphics x y (p refl))

  definition_marked : (d : Definition) (s : State) → AllMarked P s.marks → AllMarked P (definition_step room t d s).next.marks
  unfolding definition_step aperture_step macro_step with_apertures with_macros with_numbers
  definition_marked (definition.Aperture n name ps rounded) s w = w
  definition_marked (definition.Macro name blocks deep rounded) s w = w

  block_ends_lem : (os : List Opened) (s : State) → AllMarked P s.marks → AllMarked P (block_ends os s).marks
  unfolding block_ends with_level with_opened with_apertures
  block_ends_lem [] s w = w
  block_ends_lem (opened.block n l ∷ os) s w = w
  block_ends_lem (opened.repeat l ∷ os) s w = w

  repeat_ends_lem : (os : List Opened) (s : State) → AllMarked P s.marks → AllMarked P (repeat_ends os s).marks
  unfolding repeat_ends with_level with_opened
  repeat_ends_lem [] s w = w
  repeat_ends_lem (opened.block n l ∷ os) s w = w
  repeat_ends_lem (opened.repeat l ∷ os) s w = w

  bracket_marked : (b : Bracket) (s : State) → AllMarked P s.marks → AllMarked P (bracket_step room place b s).next.marks
  unfolding bracket_step block_start_step block_end_step repeat_start_step repeat_end_step passed with_level with_opened with_apertures marks_of bracket_marks
  bracket_marked (bracket.BlockStart n) s w = marks_append w (marked_more opens unmarked)
  bracket_marked bracket.BlockEnd s w = block_ends_lem s.opened (passed (Contain bracket.BlockEnd) place 0 s) (marks_append w (marked_more closes unmarked))
  bracket_marked (bracket.RepeatStart nx ny dx dy rounded) s w = marks_append w (marked_more opens unmarked)
  bracket_marked bracket.RepeatEnd s w = repeat_ends_lem s.opened (passed (Contain bracket.RepeatEnd) place 0 s) (marks_append w (marked_more closes unmarked))

  deed_marked : (d : Deed) (s : State) → AllMarked P s.marks → AllMarked P (deed_step t d s).next.marks
  unfolding deed_step file_attribute_step with_names
  deed_marked (deed.SetFile name value) s w = w
  deed_marked (deed.SetAperture name value) s w = w
  deed_marked (deed.SetObject name value) s w = w
  deed_marked (deed.Delete name) s w = w
  deed_marked deed.DeleteAll s w = w

  pub step_marked : (c : Command) (s : State) → (made_of c ≡ Item → P place) → AllMarked P s.marks → AllMarked P (step_of room t place c s).next.marks
  unfolding step_of made_of setting_step select_step coded_step with_graphics
  step_marked (Broken flaw) s p w = w
  step_marked Note s p w = w
  step_marked End s p w = w
  step_marked (Set x) s p w = w
  step_marked (Operate o) s p w = operation_marked o s p w
  step_marked (Coded x o) s p w = operation_marked o (setting_step x s).next p w
  step_marked (Select n) s p w = w
  step_marked (Define d) s p w = definition_marked d s w
  step_marked (Contain b) s p w = bracket_marked b s w
  step_marked (Attribute d) s p w = deed_marked d s w
