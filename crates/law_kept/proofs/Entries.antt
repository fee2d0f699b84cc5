-- A step uses the entries that document 01 counts, and so do the commands that are kept: by induction over them.
-- Assumes nothing.
use Rattle.std.specs.Prelude.{Option, ℤ}
use Prim.Native.Nat.{ℕ, suc, ◌+◌}
use mathlib.Core.Path.{◌≡◌, refl, ap, ◌∙◌}
use mathlib.Core.Bool.{Bool, true, false, not}
use mathlib.Core.List.{List, [], ◌∷◌, ◌++◌}
use native.Mathlib.Omega.{arith}
use Rattle.book.specs.declared.Book.{Book}
use Rattle.base.specs.And.{◌and◌}
use Rattle.place.specs.Mark.{Mark, draw, contour, edge, flash, begin, finish}
use Rattle.command.specs.declared.Setting.{Setting}
use Rattle.command.specs.declared.Operation.{Operation}
use Rattle.command.specs.declared.Operation.TheVariants as operation
use Rattle.command.specs.declared.Definition.{Definition}
use Rattle.command.specs.declared.Definition.TheVariants as definition
use Rattle.command.specs.declared.Bracket.{Bracket}
use Rattle.command.specs.declared.Bracket.TheVariants as bracket
use Rattle.command.specs.declared.Deed.{Deed}
use Rattle.command.specs.declared.Deed.TheVariants as deed
use Rattle.command.specs.declared.Command.{Command}
use Rattle.command.specs.declared.Command.TheVariants.{Broken, Note, End, Set, Operate, Coded, Select, Define, Contain, Attribute}
use Rattle.sequence.specs.Commands.{commands_of}
use Rattle.sequence.specs.declared.Placed.{Placed}
use Rattle.graphics.specs.declared.Graphics.{Graphics}
use Rattle.changes.specs.After.{starts_contour}
use Rattle.operation_rules.specs.Faults.{draw_items}
use Rattle.marks.specs.Marks.{draw_marks, flash_marks, operation_marks, bracket_marks, marks_of}
use Rattle.law_reading.specs.State as opened
use Rattle.law_reading.specs.State.{Room, Opened, State, begun}
use Rattle.law_reading.specs.Steps.{
  passed,
  with_graphics,
  with_level,
  with_opened,
  with_apertures,
  with_macros,
  with_names,
  with_numbers,
  draw_step,
  flash_step,
  select_step,
  aperture_step,
  macro_step,
  block_start_step,
  repeat_start_step,
  block_ends,
  repeat_ends,
  block_end_step,
  repeat_end_step,
  file_attribute_step,
  setting_step,
  move_step,
  operation_step,
  coded_step,
  definition_step,
  bracket_step,
  deed_step,
  step_of,
}
use Rattle.law_reading.specs.Reading.{step_at}
use Rattle.law_kept.specs.Kept.{Keeps, nothing, one, KeepsRules}
use Rattle.law_kept.specs.Entries.{operation_entries, bracket_entries, command_entries, entries_for, contours}
use Rattle.command.specs.declared.Offset.{Offset}

contours_append : (ms ns : List Mark) → contours (ms ++ ns) ≡ contours ms + contours ns
unfolding contours
contours_append [] ns = omega arith
contours_append (contour t ∷ ms) ns = let h = contours_append ms ns in omega arith
contours_append (draw t ∷ ms) ns = contours_append ms ns
contours_append (edge t ∷ ms) ns = contours_append ms ns
contours_append (flash n m place ∷ ms) ns = contours_append ms ns
contours_append (begin o ∷ ms) ns = contours_append ms ns
contours_append (finish ∷ ms) ns = contours_append ms ns

-- a D01 uses one entry, and one for the contour that it starts
draw_uses : (g : Graphics) (x y : Option ℤ) (o : Option Offset) (place : ℕ) → draw_items g ≡ 1 + contours (draw_marks g x y o place)
unfolding draw_items draw_marks starts_contour contours ◌and◌
draw_uses g x y o place = go g.region.on refl g.region.contour refl
  where
    go : (on : Bool) → g.region.on ≡ on → (begun : Bool) → g.region.contour ≡ begun → draw_items g ≡ 1 + contours (draw_marks g x y o place)
    go true p true q = rw (p, q)
    go true p false q = rw (p, q)
    go false p begun q = rw p

flash_uses : (g : Graphics) (x y : Option ℤ) (place : ℕ) → contours (flash_marks g x y place) ≡ 0
unfolding flash_marks contours
flash_uses g x y place = go g.aperture.block refl
  where
    go : (b : Bool) → g.aperture.block ≡ b → contours (flash_marks g x y place) ≡ 0
    go true p = rw p
    go false p = rw p

-- after a step the entries are those before it, those of the command, and those of the contours that it starts
abbrev Uses : Command → State → State → Type 0
Uses c s t = t.entries + contours s.marks ≡ s.entries + command_entries c + contours t.marks

pub block_uses : (os : List Opened) (s : State) → ((block_ends os s).entries ≡ s.entries) × ((block_ends os s).marks ≡ s.marks)
unfolding block_ends with_level with_opened with_apertures
block_uses [] s = (refl, refl)
block_uses (opened.block n l ∷ os) s = (refl, refl)
block_uses (opened.repeat l ∷ os) s = (refl, refl)

pub repeat_uses : (os : List Opened) (s : State) → ((repeat_ends os s).entries ≡ s.entries) × ((repeat_ends os s).marks ≡ s.marks)
unfolding repeat_ends with_level with_opened
repeat_uses [] s = (refl, refl)
repeat_uses (opened.block n l ∷ os) s = (refl, refl)
repeat_uses (opened.repeat l ∷ os) s = (refl, refl)

module _ (room : Room) (t : List ℕ) (p : ℕ) where
  operation_uses : (o : Operation) (s : State) → Uses (Operate o) s (operation_step room p o s).next
  unfolding operation_step draw_step move_step flash_step passed with_graphics with_level command_entries operation_entries marks_of operation_marks
  operation_uses (operation.Draw x y o) s =
      let d = draw_uses s.graphics x y o p in
      let h = contours_append s.marks (draw_marks s.graphics x y o p) in
      omega arith
  operation_uses (operation.Move x y) s = omega arith
  operation_uses (operation.Flash x y) s =
      let d = flash_uses s.graphics x y p in
      let h = contours_append s.marks (flash_marks s.graphics x y p) in
      omega arith

  definition_uses : (d : Definition) (s : State) → Uses (Define d) s (definition_step room t d s).next
  unfolding definition_step aperture_step macro_step with_apertures with_macros with_numbers command_entries
  definition_uses (definition.Aperture n name ps rounded) s = omega arith
  definition_uses (definition.Macro name blocks deep rounded) s = omega arith

  bracket_uses : (b : Bracket) (s : State) → Uses (Contain b) s (bracket_step room p b s).next
  unfolding bracket_step block_start_step block_end_step repeat_start_step repeat_end_step passed with_level with_opened with_apertures command_entries bracket_entries marks_of bracket_marks contours
  bracket_uses (bracket.BlockStart n) s = let h = contours_append s.marks (marks_of (Contain (bracket.BlockStart n)) s.graphics p) in omega arith
  bracket_uses bracket.BlockEnd s =
      let h = contours_append s.marks (marks_of (Contain bracket.BlockEnd) s.graphics p) in
      let k = block_uses s.opened (passed (Contain bracket.BlockEnd) p 0 s) in
      let m = ap contours k.1 in
      let e = k.0 in
      omega arith
  bracket_uses (bracket.RepeatStart nx ny dx dy rounded) s =
      let h = contours_append s.marks (marks_of (Contain (bracket.RepeatStart nx ny dx dy 0)) s.graphics p) in omega arith
  bracket_uses bracket.RepeatEnd s =
      let h = contours_append s.marks (marks_of (Contain bracket.RepeatEnd) s.graphics p) in
      let k = repeat_uses s.opened (passed (Contain bracket.RepeatEnd) p 0 s) in
      let m = ap contours k.1 in
      let e = k.0 in
      omega arith

  deed_uses : (d : Deed) (s : State) → Uses (Attribute d) s (deed_step t d s).next
  unfolding deed_step file_attribute_step with_names command_entries
  deed_uses (deed.SetFile name value) s = omega arith
  deed_uses (deed.SetAperture name value) s = omega arith
  deed_uses (deed.SetObject name value) s = omega arith
  deed_uses (deed.Delete name) s = omega arith
  deed_uses deed.DeleteAll s = omega arith

  coded_uses : (code : Setting) (o : Operation) (s : State) → Uses (Coded code o) s (coded_step room p code o s).next
  unfolding coded_step setting_step with_graphics command_entries
  coded_uses code o s = operation_uses o (setting_step code s).next

  step_uses : (c : Command) (s : State) → Uses c s (step_of room t p c s).next
  unfolding step_of setting_step select_step with_graphics command_entries
  step_uses (Broken flaw) s = omega arith
  step_uses Note s = omega arith
  step_uses End s = omega arith
  step_uses (Set x) s = omega arith
  step_uses (Operate o) s = operation_uses o s
  step_uses (Coded code o) s = coded_uses code o s
  step_uses (Select n) s = omega arith
  step_uses (Define d) s = definition_uses d s
  step_uses (Contain b) s = bracket_uses b s
  step_uses (Attribute d) s = deed_uses d s

kept_uses : {room : Room} {file : List ℕ} {s t : State} {cs : List Placed} → Keeps room file s cs t →
    t.entries + contours s.marks ≡ s.entries + entries_for cs + contours t.marks
unfolding entries_for
kept_uses nothing = omega arith
kept_uses {room = room} {file = file} {s = s} (one {c = c} e k) =
    let h = kept_uses k in
    let a : Uses c.command s (step_at room file c s).next = step_uses room _ c.place c.command s in
    omega arith

-- the entries of a file that keeps the rules
pub entries_are : {book : Book} {room : Room} {file : List ℕ} {t : State} → KeepsRules book room file t → t.entries ≡ entries_for (commands_of book file).commands + contours t.marks
unfolding begun contours
entries_are k = let h = kept_uses k.commands in omega arith
