-- A step adds two records at most to the store, and so the commands that are kept twice their number.
-- Assumes nothing.
use Prim.Native.Nat.{ℕ, suc, ◌+◌, ◌*◌, ◌≤◌}
use mathlib.Core.Path.{◌≡◌, refl}
use mathlib.Core.Bool.{Bool, true, false}
use mathlib.Core.List.{List, [], ◌∷◌}
use native.Mathlib.Omega.{arith}
use lib.Dec.{eqb}
use lib.ListN.{length, length-append}
use Rattle.book.specs.declared.Book.{Book}
use Rattle.command.specs.declared.Setting.{Setting}
use Rattle.command.specs.declared.Operation.{Operation}
use Rattle.command.specs.declared.Operation.TheVariants as operation
use Rattle.command.specs.declared.Definition.{Definition}
use Rattle.command.specs.declared.Definition.TheVariants as definition
use Rattle.command.specs.declared.Bracket.{Bracket}
use Rattle.command.specs.declared.Bracket.TheVariants as bracket
use Rattle.command.specs.declared.Deed.{Deed}
use Rattle.command.specs.declared.Deed.TheVariants as deed
use Rattle.command.specs.declared.Command.{Command}
use Rattle.command.specs.declared.Command.TheVariants.{Broken, Note, End, Set, Operate, Coded, Select, Define, Contain, Attribute}
use Rattle.sequence.specs.Commands.{commands_of}
use Rattle.sequence.specs.declared.Placed.{Placed}
use Rattle.graphics.specs.declared.Graphics.{Graphics}
use Rattle.changes.specs.After.{starts_contour}
use Rattle.operation_rules.specs.Faults.{draw_items}
use Rattle.law_reading.specs.State as opened
use Rattle.law_reading.specs.State.{Room, Aperture, Opened, State, begun}
use Rattle.law_reading.specs.Apertures.{closing}
use Rattle.law_reading.specs.Steps.{
  passed,
  with_graphics,
  with_level,
  with_opened,
  with_apertures,
  with_macros,
  with_names,
  with_numbers,
  draw_step,
  flash_step,
  select_step,
  aperture_step,
  macro_step,
  block_start_step,
  repeat_start_step,
  block_ends,
  repeat_ends,
  block_end_step,
  repeat_end_step,
  file_attribute_step,
  setting_step,
  move_step,
  operation_step,
  coded_step,
  definition_step,
  bracket_step,
  deed_step,
  step_of,
}
use Rattle.law_reading.specs.Reading.{step_at}
use Rattle.law_kept.specs.Kept.{Keeps, nothing, one, KeepsRules}

abbrev used : State → ℕ
used s = s.entries + length s.apertures + length s.macros

draw_two : (g : Graphics) → draw_items g ≤ 2
unfolding draw_items
draw_two g = go (starts_contour g.region) refl
  where
    go : (t : Bool) → starts_contour g.region ≡ t → draw_items g ≤ 2
    go true e = rw e (omega arith)
    go false e = rw e (omega arith)

-- a block that closes keeps its record
length_closing : (n items height : ℕ) (known : List Aperture) → length (closing n items height known) ≡ length known
unfolding closing
length_closing n items height [] = refl
length_closing n items height (a ∷ known) = let ih = length_closing n items height known in omega arith

block_adds : (os : List Opened) (s : State) → used (block_ends os s) ≤ used s + 2
unfolding block_ends with_level with_opened with_apertures
block_adds [] s = omega arith
block_adds (opened.block n l ∷ os) s = let e = length_closing n s.level.items s.level.height s.apertures in omega arith
block_adds (opened.repeat l ∷ os) s = omega arith

repeat_adds : (os : List Opened) (s : State) → used (repeat_ends os s) ≤ used s + 2
unfolding repeat_ends with_level with_opened
repeat_adds [] s = omega arith
repeat_adds (opened.block n l ∷ os) s = omega arith
repeat_adds (opened.repeat l ∷ os) s = omega arith

module _ (room : Room) (t : List ℕ) (p : ℕ) where
  operation_adds : (o : Operation) (s : State) → used (operation_step room p o s).next ≤ used s + 2
  unfolding operation_step draw_step move_step flash_step passed with_graphics with_level
  operation_adds (operation.Draw x y o) s = let d = draw_two s.graphics in omega arith
  operation_adds (operation.Move x y) s = omega arith
  operation_adds (operation.Flash x y) s = omega arith

  definition_adds : (d : Definition) (s : State) → used (definition_step room t d s).next ≤ used s + 2
  unfolding definition_step aperture_step macro_step with_apertures with_macros with_numbers
  definition_adds (definition.Aperture n name ps rounded) s = simp length-append (omega arith)
  definition_adds (definition.Macro name blocks deep rounded) s = simp length-append (omega arith)

  bracket_adds : (b : Bracket) (s : State) → used (bracket_step room p b s).next ≤ used s + 2
  unfolding bracket_step block_start_step block_end_step repeat_start_step repeat_end_step passed with_level with_opened with_apertures
  bracket_adds (bracket.BlockStart n) s = simp length-append (omega arith)
  bracket_adds bracket.BlockEnd s = let h = block_adds s.opened (passed (Contain bracket.BlockEnd) p 0 s) in omega arith
  bracket_adds (bracket.RepeatStart nx ny dx dy rounded) s = omega arith
  bracket_adds bracket.RepeatEnd s = let h = repeat_adds s.opened (passed (Contain bracket.RepeatEnd) p 0 s) in omega arith

  deed_adds : (d : Deed) (s : State) → used (deed_step t d s).next ≤ used s + 2
  unfolding deed_step file_attribute_step with_names
  deed_adds (deed.SetFile name value) s = omega arith
  deed_adds (deed.SetAperture name value) s = omega arith
  deed_adds (deed.SetObject name value) s = omega arith
  deed_adds (deed.Delete name) s = omega arith
  deed_adds deed.DeleteAll s = omega arith

  coded_adds : (code : Setting) (o : Operation) (s : State) → used (coded_step room p code o s).next ≤ used s + 2
  unfolding coded_step setting_step with_graphics
  coded_adds code o s = operation_adds o (setting_step code s).next

  step_adds : (c : Command) (s : State) → used (step_of room t p c s).next ≤ used s + 2
  unfolding step_of setting_step select_step with_graphics
  step_adds (Broken flaw) s = omega arith
  step_adds Note s = omega arith
  step_adds End s = omega arith
  step_adds (Set x) s = omega arith
  step_adds (Operate o) s = operation_adds o s
  step_adds (Coded code o) s = coded_adds code o s
  step_adds (Select n) s = omega arith
  step_adds (Define d) s = definition_adds d s
  step_adds (Contain b) s = bracket_adds b s
  step_adds (Attribute d) s = deed_adds d s

kept_adds : {room : Room} {file : List ℕ} {s t : State} {cs : List Placed} → Keeps room file s cs t → used t ≤ used s + 2 * length cs
kept_adds nothing = omega arith
kept_adds {room = room} {file = file} {s = s} (one {c = c} e k) =
    let h = kept_adds k in
    let a : used (step_at room file c s).next ≤ used s + 2 = step_adds room _ c.place c.command s in
    omega arith

-- what a file that keeps the rules leaves
pub rules_use : {book : Book} {room : Room} {file : List ℕ} {t : State} → KeepsRules book room file t → used t ≤ 2 * length (commands_of book file).commands
unfolding begun
rules_use k = let h = kept_adds k.commands in omega arith
