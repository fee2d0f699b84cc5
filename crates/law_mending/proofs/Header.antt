-- FS and MO over one command: what is given stays given, and one that breaks no rule is the first of its kind.
-- Assumes nothing.
use Prim.Native.Nat.{ℕ}
use mathlib.Core.Path.{◌≡◌, refl, sym, ap, subst}
use mathlib.Core.Bool.{Bool, true, false, not}
use mathlib.Core.List.{List, [], ◌∷◌}
use native.Mathlib.Omega.{arith}
use lib.Dec.{eqb}
use Rattle.base.specs.And.{◌and◌}
use Rattle.base.proofs.And.{and_r}
use Rattle.base.proofs.Faults.{unbroken}
use Rattle.formats.specs.Format.{is_format}
use Rattle.formats.specs.declared.Format.{Format}
use Rattle.command.specs.declared.Setting.{Setting}
use Rattle.command.specs.declared.Setting.TheVariants as setting
use Rattle.command.specs.declared.Operation.{Operation}
use Rattle.command.specs.declared.Operation.TheVariants as operation
use Rattle.command.specs.declared.Definition.{Definition}
use Rattle.command.specs.declared.Definition.TheVariants as definition
use Rattle.command.specs.declared.Bracket.{Bracket}
use Rattle.command.specs.declared.Bracket.TheVariants as bracket
use Rattle.command.specs.declared.Deed.{Deed}
use Rattle.command.specs.declared.Deed.TheVariants as deed
use Rattle.command.specs.declared.Command.{Command}
use Rattle.command.specs.declared.Command.TheVariants.{Broken, Note, End, Set, Operate, Coded, Select, Define, Contain, Attribute}
use Rattle.law_bounds.specs.Bounded.{SettingBounded, Bounded}
use Rattle.graphics.specs.Graphics.{with_header, with_notation, with_point, with_aperture, with_mode, with_quadrants, with_transform, with_region}
use Rattle.graphics.specs.declared.Header.{Header}
use Rattle.graphics.specs.declared.Graphics.{Graphics}
use Rattle.changes.specs.After.{going_to, with_format, with_unit, with_coded, after_setting, after_operation, after}
use Rattle.operation_tests.specs.Far.{is_formatted}
use Rattle.command_rules.specs.Settings.{setting_rules, setting_fault}
use Rattle.law_reading.specs.State as opened
use Rattle.law_reading.specs.State.{Room, Opened, State}
use Rattle.law_reading.specs.Steps.{
  passed,
  with_graphics,
  with_level,
  with_opened,
  with_apertures,
  with_macros,
  with_names,
  with_numbers,
  draw_step,
  flash_step,
  select_step,
  aperture_step,
  macro_step,
  block_start_step,
  repeat_start_step,
  block_ends,
  repeat_ends,
  block_end_step,
  repeat_end_step,
  file_attribute_step,
  setting_step,
  move_step,
  operation_step,
  coded_step,
  definition_step,
  bracket_step,
  deed_step,
  step_of,
}

-- FS is given, and MO is
abbrev pub has_format : State → Bool
has_format s = is_formatted s.graphics

abbrev pub has_unit : State → Bool
has_unit s = not (eqb s.graphics.header.unit 0)

-- a format has places
is_formatted_lem : (f : Format) → is_format f ≡ true → not (eqb f.integers 0 and eqb f.decimals 0) ≡ true
unfolding is_format
is_formatted_lem f e = and_r _ _ e

-- after a setting
setting_format : (x : Setting) (g : Graphics) → SettingBounded x → is_formatted g ≡ true → is_formatted (after_setting x g) ≡ true
unfolding SettingBounded is_formatted after_setting with_header with_notation with_mode with_quadrants with_transform with_region with_format with_unit with_coded
setting_format setting.Linear g b h = h
setting_format setting.Clockwise g b h = h
setting_format setting.Counterclockwise g b h = h
setting_format setting.SingleQuadrant g b h = h
setting_format setting.MultiQuadrant g b h = h
setting_format setting.RegionStart g b h = h
setting_format setting.RegionEnd g b h = h
setting_format (setting.Format f) g b h = is_formatted_lem f b
setting_format setting.Absolute g b h = h
setting_format setting.Incremental g b h = h
setting_format setting.Millimetres g b h = h
setting_format setting.Inches g b h = h
setting_format setting.CodedMillimetres g b h = h
setting_format setting.CodedInches g b h = h
setting_format setting.Halt g b h = h
setting_format setting.Dark g b h = h
setting_format setting.Clear g b h = h
setting_format (setting.Mirror x y) g b h = h
setting_format (setting.Rotation a rounded) g b h = h
setting_format (setting.Scale a rounded) g b h = h

setting_unit : (x : Setting) (g : Graphics) → not (eqb g.header.unit 0) ≡ true → not (eqb (after_setting x g).header.unit 0) ≡ true
unfolding after_setting with_header with_notation with_mode with_quadrants with_transform with_region with_format with_unit with_coded
setting_unit setting.Linear g h = h
setting_unit setting.Clockwise g h = h
setting_unit setting.Counterclockwise g h = h
setting_unit setting.SingleQuadrant g h = h
setting_unit setting.MultiQuadrant g h = h
setting_unit setting.RegionStart g h = h
setting_unit setting.RegionEnd g h = h
setting_unit (setting.Format f) g h = h
setting_unit setting.Absolute g h = h
setting_unit setting.Incremental g h = h
setting_unit setting.Millimetres g h = refl
setting_unit setting.Inches g h = refl
setting_unit setting.CodedMillimetres g h = h
setting_unit setting.CodedInches g h = h
setting_unit setting.Halt g h = h
setting_unit setting.Dark g h = h
setting_unit setting.Clear g h = h
setting_unit (setting.Mirror x y) g h = h
setting_unit (setting.Rotation a rounded) g h = h
setting_unit (setting.Scale a rounded) g h = h

-- the other commands leave the header as it is
block_graphics : (os : List Opened) (s : State) → (block_ends os s).graphics ≡ s.graphics
unfolding block_ends with_level with_opened with_apertures
block_graphics [] s = refl
block_graphics (opened.block n l ∷ os) s = refl
block_graphics (opened.repeat l ∷ os) s = refl

repeat_graphics : (os : List Opened) (s : State) → (repeat_ends os s).graphics ≡ s.graphics
unfolding repeat_ends with_level with_opened
repeat_graphics [] s = refl
repeat_graphics (opened.block n l ∷ os) s = refl
repeat_graphics (opened.repeat l ∷ os) s = refl

abbrev header_in : State → Header
header_in s = s.graphics.header

module _ (room : Room) (t : List ℕ) (p : ℕ) where
  operation_header : (o : Operation) (s : State) → header_in (operation_step room p o s).next ≡ header_in s
  unfolding operation_step draw_step move_step flash_step passed with_graphics with_level after after_operation going_to with_point with_region
  operation_header (operation.Draw x y o) s = refl
  operation_header (operation.Move x y) s = refl
  operation_header (operation.Flash x y) s = refl

  definition_header : (d : Definition) (s : State) → header_in (definition_step room t d s).next ≡ header_in s
  unfolding definition_step aperture_step macro_step with_apertures with_macros with_numbers
  definition_header (definition.Aperture n name ps rounded) s = refl
  definition_header (definition.Macro name blocks deep rounded) s = refl

  bracket_header : (b : Bracket) (s : State) → header_in (bracket_step room p b s).next ≡ header_in s
  unfolding bracket_step block_start_step block_end_step repeat_start_step repeat_end_step passed with_level with_opened with_apertures after with_point
  bracket_header (bracket.BlockStart n) s = refl
  bracket_header bracket.BlockEnd s = ap (λ (g : Graphics). g.header) (block_graphics s.opened (passed (Contain bracket.BlockEnd) p 0 s))
  bracket_header (bracket.RepeatStart nx ny dx dy rounded) s = refl
  bracket_header bracket.RepeatEnd s = ap (λ (g : Graphics). g.header) (repeat_graphics s.opened (passed (Contain bracket.RepeatEnd) p 0 s))

  deed_header : (d : Deed) (s : State) → header_in (deed_step t d s).next ≡ header_in s
  unfolding deed_step file_attribute_step with_names
  deed_header (deed.SetFile name value) s = refl
  deed_header (deed.SetAperture name value) s = refl
  deed_header (deed.SetObject name value) s = refl
  deed_header (deed.Delete name) s = refl
  deed_header deed.DeleteAll s = refl

  -- the header after a command is the one before, or that after a setting
  abbrev Behind : Command → State → Header → Type 0
  Behind (Set x) s h = h ≡ (after_setting x s.graphics).header
  Behind (Coded x o) s h = h ≡ (after_setting x s.graphics).header
  Behind (Broken flaw) s h = h ≡ header_in s
  Behind Note s h = h ≡ header_in s
  Behind End s h = h ≡ header_in s
  Behind (Operate o) s h = h ≡ header_in s
  Behind (Select n) s h = h ≡ header_in s
  Behind (Define d) s h = h ≡ header_in s
  Behind (Contain b) s h = h ≡ header_in s
  Behind (Attribute d) s h = h ≡ header_in s

  step_header : (c : Command) (s : State) → Behind c s (header_in (step_of room t p c s).next)
  unfolding step_of setting_step coded_step select_step with_graphics with_aperture
  step_header (Broken flaw) s = refl
  step_header Note s = refl
  step_header End s = refl
  step_header (Set x) s = refl
  step_header (Operate o) s = operation_header o s
  step_header (Coded x o) s = operation_header o (setting_step x s).next
  step_header (Select n) s = refl
  step_header (Define d) s = definition_header d s
  step_header (Contain b) s = bracket_header b s
  step_header (Attribute d) s = deed_header d s

  -- what is known of a header, after a command
  carries : (K : Header → Type 0) (c : Command) (s : State) → ((x : Setting) → SettingBounded x → K (header_in s) → K (after_setting x s.graphics).header) →
      Bounded t c → K (header_in s) → K (header_in (step_of room t p c s).next)
  unfolding Bounded
  carries K c s along b k = go c (step_header c s) b
    where
      go : (c : Command) {h : Header} → Behind c s h → Bounded t c → K h
      go (Set x) e b = subst K (sym e) (along x b k)
      go (Coded x o) e b = subst K (sym e) (along x b.0 k)
      go (Broken flaw) e b = subst K (sym e) k
      go Note e b = subst K (sym e) k
      go End e b = subst K (sym e) k
      go (Operate o) e b = subst K (sym e) k
      go (Select n) e b = subst K (sym e) k
      go (Define d) e b = subst K (sym e) k
      go (Contain d) e b = subst K (sym e) k
      go (Attribute d) e b = subst K (sym e) k

  pub format_stays : (c : Command) (s : State) → Bounded t c → has_format s ≡ true → has_format (step_of room t p c s).next ≡ true
  unfolding is_formatted
  format_stays c s b h =
      carries (λ (x : Header). not (eqb x.format.integers 0 and eqb x.format.decimals 0) ≡ true) c s (λ x b k. setting_format x s.graphics b k) b h

  pub unit_stays : (c : Command) (s : State) → Bounded t c → has_unit s ≡ true → has_unit (step_of room t p c s).next ≡ true
  unit_stays c s b h = carries (λ (x : Header). not (eqb x.unit 0) ≡ true) c s (λ x b k. setting_unit x s.graphics k) b h

-- a command that gives FS, and breaks no rule
abbrev pub First : (State → Bool) → State → State → Type 0
First has s s' = (has s ≡ false) × (has s' ≡ true)

module _ (room : Room) (t : List ℕ) (p : ℕ) (s : State) where
  pub format_first : (f : Format) → is_format f ≡ true → (step_of room t p (Set (setting.Format f)) s).fault ≡ 0 → First has_format s (step_of room t p (Set (setting.Format f)) s).next
  unfolding step_of setting_step setting_fault setting_rules with_graphics after_setting with_header with_notation with_format is_formatted
  format_first f b e = ((unbroken {test = has_format s} {number = 6} (omega arith) e).0, is_formatted_lem f b)

  pub millimetres_first : (step_of room t p (Set setting.Millimetres) s).fault ≡ 0 → First has_unit s (step_of room t p (Set setting.Millimetres) s).next
  unfolding step_of setting_step setting_fault setting_rules with_graphics after_setting with_header with_unit
  millimetres_first e = ((unbroken {test = has_unit s} {number = 6} (omega arith) e).0, refl)

  pub inches_first : (step_of room t p (Set setting.Inches) s).fault ≡ 0 → First has_unit s (step_of room t p (Set setting.Inches) s).next
  unfolding step_of setting_step setting_fault setting_rules with_graphics after_setting with_header with_unit
  inches_first e = ((unbroken {test = has_unit s} {number = 6} (omega arith) e).0, refl)
