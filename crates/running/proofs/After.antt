-- What a step leaves of the unit and of the names that TF has set.
-- Assumes nothing.
use Rattle.std.specs.Prelude.{None, Option, Some}
use Rattle.running.specs.Units.{unit_in}
use Rattle.base.specs.Choose.{pick}
use lib.Dec.{eqb}
use Prim.Native.Nat.{ℕ, ◌≤◌}
use mathlib.Core.Path.{◌≡◌, refl}
use mathlib.Core.Bool.{Bool, true, false}
use mathlib.Core.List.{List, [], ◌∷◌}
use native.Mathlib.Omega.{arith}
use lib.Dec.{lit≤}
use Rattle.base.proofs.Faults.{unbroken}
use Rattle.command.specs.declared.Setting.{Setting}
use Rattle.command.specs.declared.Setting.TheVariants as setting
use Rattle.command.specs.declared.Operation.{Operation}
use Rattle.command.specs.declared.Operation.TheVariants as operation
use Rattle.command.specs.declared.Definition.{Definition}
use Rattle.command.specs.declared.Definition.TheVariants as definition
use Rattle.command.specs.declared.Bracket.{Bracket}
use Rattle.command.specs.declared.Bracket.TheVariants as bracket
use Rattle.command.specs.declared.Deed.{Deed}
use Rattle.command.specs.declared.Deed.TheVariants as deed
use Rattle.command.specs.declared.Command.{Command}
use Rattle.command.specs.declared.Command.TheVariants as cmd
use Rattle.graphics.specs.Graphics.{with_header, with_notation, with_point, with_aperture, with_mode, with_quadrants, with_transform, with_region}
use Rattle.graphics.specs.declared.Graphics.{Graphics}
use Rattle.changes.specs.After.{after_setting, after_operation, after, going_to, with_format, with_unit, with_coded}
use Rattle.command_rules.specs.Rules.{file_attribute_fault}
use Rattle.names.specs.Sets.{sets_by, sets_of}
use Rattle.law_reading.specs.State as opened
use Rattle.law_reading.specs.State.{Room, Opened, State}
use Rattle.law_reading.specs.Apertures.{is_among}
use Rattle.command.specs.declared.Span.{Span}
use Rattle.law_reading.specs.Steps.{
  passed,
  with_graphics,
  with_level,
  with_opened,
  with_apertures,
  with_macros,
  with_names,
  with_numbers,
  part,
  setting_step,
  draw_step,
  move_step,
  flash_step,
  select_step,
  aperture_step,
  macro_step,
  block_start_step,
  repeat_start_step,
  block_ends,
  repeat_ends,
  block_end_step,
  repeat_end_step,
  file_attribute_step,
  operation_step,
  coded_step,
  definition_step,
  bracket_step,
  deed_step,
  step_of,
}

-- what closes leaves both
block_leaves : (os : List Opened) (s : State) → ((block_ends os s).graphics ≡ s.graphics) × ((block_ends os s).names ≡ s.names)
unfolding block_ends with_level with_opened with_apertures
block_leaves [] s = (refl, refl)
block_leaves (opened.block n l ∷ os) s = (refl, refl)
block_leaves (opened.repeat l ∷ os) s = (refl, refl)

repeat_leaves : (os : List Opened) (s : State) → ((repeat_ends os s).graphics ≡ s.graphics) × ((repeat_ends os s).names ≡ s.names)
unfolding repeat_ends with_level with_opened
repeat_leaves [] s = (refl, refl)
repeat_leaves (opened.block n l ∷ os) s = (refl, refl)
repeat_leaves (opened.repeat l ∷ os) s = (refl, refl)

-- the unit is one of two, once it is given, by MO or by a code
abbrev pub UnitGiven : Graphics → Type 0
UnitGiven g = (g.header.unit ≤ 2) × (g.header.coded ≤ 2)

pub unit_low : (g : Graphics) → UnitGiven g → unit_in g.header ≤ 2
unfolding unit_in pick
unit_low g h = go (eqb g.header.unit 0)
  where
    go : (t : Bool) → pick t g.header.coded g.header.unit ≤ 2
    go true = h.1
    go false = h.0

coded_low : (u : ℕ) (g : Graphics) → u ≤ 2 → UnitGiven g → pick (eqb g.header.coded 0) u g.header.coded ≤ 2
unfolding pick
coded_low u g l h = go (eqb g.header.coded 0)
  where
    go : (t : Bool) → pick t u g.header.coded ≤ 2
    go true = l
    go false = h.1

unit_set : (x : Setting) (g : Graphics) → UnitGiven g → UnitGiven (after_setting x g)
unfolding after_setting with_header with_notation with_mode with_quadrants with_transform with_region with_format with_unit with_coded
unit_set setting.Linear g h = h
unit_set setting.Clockwise g h = h
unit_set setting.Counterclockwise g h = h
unit_set setting.SingleQuadrant g h = h
unit_set setting.MultiQuadrant g h = h
unit_set setting.Absolute g h = h
unit_set setting.Incremental g h = h
unit_set setting.CodedMillimetres g h = (h.0, coded_low 1 g (omega arith) h)
unit_set setting.CodedInches g h = (h.0, coded_low 2 g (omega arith) h)
unit_set setting.Halt g h = h
unit_set setting.RegionStart g h = h
unit_set setting.RegionEnd g h = h
unit_set (setting.Format f) g h = h
unit_set setting.Millimetres g h = (omega arith, h.1)
unit_set setting.Inches g h = (omega arith, h.1)
unit_set setting.Dark g h = h
unit_set setting.Clear g h = h
unit_set (setting.Mirror x y) g h = h
unit_set (setting.Rotation a rounded) g h = h
unit_set (setting.Scale a rounded) g h = h

-- the names after a command with this text that is no fault: TF sets a new one
unfoldable pub Named : List ℕ → List (List ℕ) → List (List ℕ) → Option Span → Type 0
Named t names names' None = names' ≡ names
Named t names names' (Some name) = (names' ≡ part t name ∷ names) × (is_among (part t name) names ≡ false)

module _ (room : Room) (t : List ℕ) (p : ℕ) where
  unit_operated : (o : Operation) (s : State) → UnitGiven s.graphics → UnitGiven (operation_step room p o s).next.graphics
  unfolding operation_step draw_step move_step flash_step passed with_graphics with_level after after_operation going_to with_point with_region
  unit_operated (operation.Draw x y o) s h = h
  unit_operated (operation.Move x y) s h = h
  unit_operated (operation.Flash x y) s h = h

  unit_defined : (d : Definition) (s : State) → UnitGiven s.graphics → UnitGiven (definition_step room t d s).next.graphics
  unfolding definition_step aperture_step macro_step with_apertures with_numbers with_macros
  unit_defined (definition.Aperture n name ps rounded) s h = h
  unit_defined (definition.Macro name blocks deep rounded) s h = h

  unit_contained : (b : Bracket) (s : State) → UnitGiven s.graphics → UnitGiven (bracket_step room p b s).next.graphics
  unfolding bracket_step block_start_step block_end_step repeat_start_step repeat_end_step passed with_level with_opened with_apertures after with_point
  unit_contained (bracket.BlockStart n) s h = h
  unit_contained bracket.BlockEnd s h = rw (block_leaves s.opened (passed (cmd.Contain bracket.BlockEnd) p 0 s)).0 h
  unit_contained (bracket.RepeatStart nx ny dx dy rounded) s h = h
  unit_contained bracket.RepeatEnd s h = rw (repeat_leaves s.opened (passed (cmd.Contain bracket.RepeatEnd) p 0 s)).0 h

  unit_attributed : (d : Deed) (s : State) → UnitGiven s.graphics → UnitGiven (deed_step t d s).next.graphics
  unfolding deed_step file_attribute_step with_names
  unit_attributed (deed.SetFile name value) s h = h
  unit_attributed (deed.SetAperture name value) s h = h
  unit_attributed (deed.SetObject name value) s h = h
  unit_attributed (deed.Delete name) s h = h
  unit_attributed deed.DeleteAll s h = h

  pub unit_after : (c : Command) (s : State) → UnitGiven s.graphics → UnitGiven (step_of room t p c s).next.graphics
  unfolding step_of setting_step coded_step select_step with_graphics with_aperture
  unit_after (cmd.Broken flaw) s h = h
  unit_after cmd.Note s h = h
  unit_after cmd.End s h = h
  unit_after (cmd.Set x) s h = unit_set x s.graphics h
  unit_after (cmd.Operate o) s h = unit_operated o s h
  unit_after (cmd.Coded code o) s h = unit_operated o (setting_step code s).next (unit_set code s.graphics h)
  unit_after (cmd.Select n) s h = h
  unit_after (cmd.Define d) s h = unit_defined d s h
  unit_after (cmd.Contain b) s h = unit_contained b s h
  unit_after (cmd.Attribute d) s h = unit_attributed d s h

  names_operated : (o : Operation) (s : State) → (operation_step room p o s).next.names ≡ s.names
  unfolding operation_step draw_step move_step flash_step passed with_graphics with_level
  names_operated (operation.Draw x y o) s = refl
  names_operated (operation.Move x y) s = refl
  names_operated (operation.Flash x y) s = refl

  names_defined : (d : Definition) (s : State) → (definition_step room t d s).next.names ≡ s.names
  unfolding definition_step aperture_step macro_step with_apertures with_numbers with_macros
  names_defined (definition.Aperture n name ps rounded) s = refl
  names_defined (definition.Macro name blocks deep rounded) s = refl

  names_contained : (b : Bracket) (s : State) → (bracket_step room p b s).next.names ≡ s.names
  unfolding bracket_step block_start_step block_end_step repeat_start_step repeat_end_step passed with_level with_opened with_apertures
  names_contained (bracket.BlockStart n) s = refl
  names_contained bracket.BlockEnd s = (block_leaves s.opened (passed (cmd.Contain bracket.BlockEnd) p 0 s)).1
  names_contained (bracket.RepeatStart nx ny dx dy rounded) s = refl
  names_contained bracket.RepeatEnd s = (repeat_leaves s.opened (passed (cmd.Contain bracket.RepeatEnd) p 0 s)).1

  names_attributed : (d : Deed) (s : State) → (deed_step t d s).fault ≡ 0 → Named t s.names (deed_step t d s).next.names (sets_by d)
  unfolding Named sets_by deed_step file_attribute_step file_attribute_fault with_names
  names_attributed (deed.SetFile name value) s q = (refl, (unbroken (lit≤ tt) (unbroken (lit≤ tt) q).1).0)
  names_attributed (deed.SetAperture name value) s q = refl
  names_attributed (deed.SetObject name value) s q = refl
  names_attributed (deed.Delete name) s q = refl
  names_attributed deed.DeleteAll s q = refl

  pub names_after : (c : Command) (s : State) → (step_of room t p c s).fault ≡ 0 → Named t s.names (step_of room t p c s).next.names (sets_of c)
  unfolding Named sets_of step_of setting_step coded_step select_step with_graphics
  names_after (cmd.Broken flaw) s q = refl
  names_after cmd.Note s q = refl
  names_after cmd.End s q = refl
  names_after (cmd.Set x) s q = refl
  names_after (cmd.Operate o) s q = names_operated o s
  names_after (cmd.Coded code o) s q = names_operated o (setting_step code s).next
  names_after (cmd.Select n) s q = refl
  names_after (cmd.Define d) s q = names_defined d s
  names_after (cmd.Contain b) s q = names_contained b s
  names_after (cmd.Attribute d) s q = names_attributed d s q
