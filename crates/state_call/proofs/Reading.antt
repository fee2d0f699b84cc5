-- A command over the graphics state alone, told what a reading's state knows of it, is the step of that reading: its fault, and the
-- graphics state after it.
-- Assumes nothing.
use Prim.Native.Nat.{ℕ}
use mathlib.Core.Path.{◌≡◌, refl, ap, ◌∙◌}
use mathlib.Core.List.{List, [], ◌∷◌}
use borrow.Author.Tests.{eq-eqb}
use Rattle.base.specs.Or.{◌or◌}
use Rattle.command.specs.declared.Setting.{Setting}
use Rattle.command.specs.declared.Operation.{Operation}
use Rattle.command.specs.declared.Operation.TheVariants as operation
use Rattle.command.specs.declared.Definition.{Definition}
use Rattle.command.specs.declared.Definition.TheVariants as definition
use Rattle.command.specs.declared.Bracket.{Bracket}
use Rattle.command.specs.declared.Bracket.TheVariants as bracket
use Rattle.command.specs.declared.Deed.{Deed}
use Rattle.command.specs.declared.Deed.TheVariants as deed
use Rattle.command.specs.declared.Command.{Command}
use Rattle.command.specs.declared.Command.TheVariants.{Broken, Note, End, Set, Operate, Coded, Select, Define, Contain, Attribute}
use Rattle.changes.specs.After.{after}
use Rattle.command_rules.specs.Rules.{aperture_fault}
use Rattle.law_reading.specs.State as opened
use Rattle.law_reading.specs.State.{Room, Opened, State}
use Rattle.law_reading.specs.Steps.{
  part,
  passed,
  with_graphics,
  with_level,
  with_opened,
  with_apertures,
  with_macros,
  with_names,
  with_numbers,
  setting_step,
  draw_step,
  flash_step,
  move_step,
  select_step,
  aperture_step,
  macro_step,
  block_start_step,
  repeat_start_step,
  block_ends,
  repeat_ends,
  block_end_step,
  repeat_end_step,
  file_attribute_step,
  operation_step,
  coded_step,
  definition_step,
  bracket_step,
  deed_step,
  step_of,
}
use Rattle.law_reading.proofs.Outcomes.{Verdict, fine, nine, ten, outcome_verdict}
use Rattle.state_call.specs.Stepped.{worked_number, operation_fault, coded_fault, definition_fault, bracket_fault, deed_fault, fault_of, behind, stepped_of}
use Rattle.state_call.specs.Knowing.{worked_of, of_definition, of_bracket, of_deed, known_of}

-- the outcome of an AD is told whole by its case
worked_back : (n : ℕ) → Verdict n → worked_number (worked_of n) ≡ n
unfolding worked_number worked_of
worked_back n fine = refl
worked_back n nine = refl
worked_back n ten = refl

module _ (room : Room) (t : List ℕ) (p : ℕ) (s : State) where
  operation_fault_lem : (o : Operation) → operation_fault s.graphics s.level o (known_of room t (Operate o) s) ≡ (operation_step room p o s).fault
  unfolding operation_fault known_of operation_step draw_step move_step flash_step
  operation_fault_lem (operation.Draw x y o) = refl
  operation_fault_lem (operation.Move x y) = refl
  operation_fault_lem (operation.Flash x y) = refl

  coded_fault_lem : (code : Setting) (o : Operation) → coded_fault s.graphics s.level code o (known_of room t (Coded code o) s) ≡ (coded_step room p code o s).fault
  unfolding coded_fault operation_fault known_of coded_step operation_step setting_step draw_step move_step flash_step with_graphics
  coded_fault_lem code (operation.Draw x y o) = refl
  coded_fault_lem code (operation.Move x y) = refl
  coded_fault_lem code (operation.Flash x y) = refl

  definition_fault_lem : (d : Definition) → definition_fault s.graphics d (of_definition room t d s) ≡ (definition_step room t d s).fault
  unfolding definition_fault of_definition definition_step aperture_step macro_step
  definition_fault_lem (definition.Aperture n name ps rounded) =
      let k = of_definition room t (definition.Aperture n name ps rounded) s in
      ap (λ (m : ℕ). aperture_fault s.graphics (k.taken or k.unknown) m k.full)
      (worked_back _ (outcome_verdict (part t name) (part t ps) s.macros))
  definition_fault_lem (definition.Macro name blocks deep rounded) = refl

  bracket_fault_lem : (b : Bracket) → bracket_fault s.graphics s.level b (of_bracket room b s) ≡ (bracket_step room p b s).fault
  unfolding bracket_fault of_bracket bracket_step block_start_step block_end_step repeat_start_step repeat_end_step
  bracket_fault_lem (bracket.BlockStart n) = refl
  bracket_fault_lem bracket.BlockEnd = refl
  bracket_fault_lem (bracket.RepeatStart nx ny dx dy rounded) = refl
  bracket_fault_lem bracket.RepeatEnd = refl

  deed_fault_lem : (d : Deed) → deed_fault s.graphics d (of_deed room t d s) ≡ (deed_step t d s).fault
  unfolding deed_fault of_deed deed_step file_attribute_step
  deed_fault_lem (deed.SetFile name value) = refl
  deed_fault_lem (deed.SetAperture name value) = refl
  deed_fault_lem (deed.SetObject name value) = refl
  deed_fault_lem (deed.Delete name) = refl
  deed_fault_lem deed.DeleteAll = refl

  fault_of_lem : (c : Command) → fault_of s.graphics s.level c (known_of room t c s) ≡ (step_of room t p c s).fault
  unfolding fault_of known_of step_of setting_step select_step
  fault_of_lem (Broken flaw) = refl
  fault_of_lem Note = refl
  fault_of_lem End = refl
  fault_of_lem (Set x) = refl
  fault_of_lem (Operate o) = operation_fault_lem o
  fault_of_lem (Coded code o) = coded_fault_lem code o
  fault_of_lem (Select n) = refl
  fault_of_lem (Define d) = definition_fault_lem d
  fault_of_lem (Contain b) = bracket_fault_lem b
  fault_of_lem (Attribute d) = deed_fault_lem d

  -- ---- the graphics state after

  operation_behind : (o : Operation) → after (Operate o) s.graphics ≡ (operation_step room p o s).next.graphics
  unfolding after operation_step draw_step move_step flash_step passed with_level with_graphics
  operation_behind (operation.Draw x y o) = refl
  operation_behind (operation.Move x y) = refl
  operation_behind (operation.Flash x y) = refl

  coded_behind : (code : Setting) (o : Operation) → after (Coded code o) s.graphics ≡ (coded_step room p code o s).next.graphics
  unfolding after coded_step operation_step setting_step draw_step move_step flash_step passed with_level with_graphics
  coded_behind code (operation.Draw x y o) = refl
  coded_behind code (operation.Move x y) = refl
  coded_behind code (operation.Flash x y) = refl

  definition_behind : (d : Definition) → s.graphics ≡ (definition_step room t d s).next.graphics
  unfolding definition_step aperture_step macro_step with_apertures with_macros with_numbers
  definition_behind (definition.Aperture n name ps rounded) = refl
  definition_behind (definition.Macro name blocks deep rounded) = refl

  -- what closes changes nothing more of it, whatever stands open
  block_keeps : (os : List Opened) (r : State) → r.graphics ≡ (block_ends os r).graphics
  unfolding block_ends with_level with_opened with_apertures
  block_keeps [] r = refl
  block_keeps (opened.block n around ∷ os) r = refl
  block_keeps (opened.repeat around ∷ os) r = refl

  repeat_keeps : (os : List Opened) (r : State) → r.graphics ≡ (repeat_ends os r).graphics
  unfolding repeat_ends with_level with_opened
  repeat_keeps [] r = refl
  repeat_keeps (opened.block n around ∷ os) r = refl
  repeat_keeps (opened.repeat around ∷ os) r = refl

  bracket_behind : (b : Bracket) → after (Contain b) s.graphics ≡ (bracket_step room p b s).next.graphics
  unfolding after bracket_step block_start_step block_end_step repeat_start_step repeat_end_step passed with_level with_opened with_apertures
  bracket_behind (bracket.BlockStart n) = refl
  bracket_behind bracket.BlockEnd = block_keeps s.opened _
  bracket_behind (bracket.RepeatStart nx ny dx dy rounded) = refl
  bracket_behind bracket.RepeatEnd = repeat_keeps s.opened _

  deed_behind : (d : Deed) → s.graphics ≡ (deed_step t d s).next.graphics
  unfolding deed_step file_attribute_step with_names
  deed_behind (deed.SetFile name value) = refl
  deed_behind (deed.SetAperture name value) = refl
  deed_behind (deed.SetObject name value) = refl
  deed_behind (deed.Delete name) = refl
  deed_behind deed.DeleteAll = refl

  graphics_behind : (c : Command) → behind s.graphics c (known_of room t c s) ≡ (step_of room t p c s).next.graphics
  unfolding behind known_of after step_of setting_step select_step with_graphics
  graphics_behind (Broken flaw) = refl
  graphics_behind Note = refl
  graphics_behind End = refl
  graphics_behind (Set x) = refl
  graphics_behind (Operate o) = operation_behind o
  graphics_behind (Coded code o) = coded_behind code o
  graphics_behind (Select n) = refl
  graphics_behind (Define d) = definition_behind d
  graphics_behind (Contain b) = bracket_behind b
  graphics_behind (Attribute d) = deed_behind d

  -- ---- every command is the reading's own step

  pub number_is_fault : (c : Command) → (stepped_of s.graphics s.level c (known_of room t c s)).number ≡ (step_of room t p c s).fault
  unfolding stepped_of
  number_is_fault c = fault_of_lem c

  pub graphics_is_next :
      (c : Command)
      → (step_of room t p c s).fault ≡ 0
      → (stepped_of s.graphics s.level c (known_of room t c s)).graphics ≡ (step_of room t p c s).next.graphics
  unfolding stepped_of
  graphics_is_next c none = rw (eq-eqb (fault_of s.graphics s.level c (known_of room t c s)) 0 (fault_of_lem c ∙ none)) (graphics_behind c)
