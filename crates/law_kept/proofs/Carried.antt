-- FS carries its format on, in reading as in the sequence of commands; the current point stays where no operation moves it.
-- Assumes nothing.
use Prim.Native.Nat.{ℕ, ◌-◌}
use mathlib.Core.Path.{◌≡◌, refl, ap, ◌∙◌}
use mathlib.Core.List.{List, ◌∷◌, []}
use Rattle.base.specs.And.{◌and◌}
use Rattle.formats.specs.declared.Format.{Format}
use Rattle.command.specs.declared.Flaw.TheVariants as flaw
use Rattle.command.specs.declared.Setting.{Setting}
use Rattle.command.specs.declared.Setting.TheVariants as setting
use Rattle.command.specs.declared.Operation.{Operation}
use Rattle.command.specs.declared.Operation.TheVariants as operation
use Rattle.command.specs.declared.Definition.{Definition}
use Rattle.command.specs.declared.Definition.TheVariants as definition
use Rattle.command.specs.declared.Bracket.{Bracket}
use Rattle.command.specs.declared.Bracket.TheVariants as bracket
use Rattle.command.specs.declared.Deed.{Deed}
use Rattle.command.specs.declared.Deed.TheVariants as deed
use Rattle.command.specs.declared.Command.{Command}
use Rattle.command.specs.declared.Command.TheVariants.{Broken, Note, End, Set, Operate, Coded, Select, Define, Contain, Attribute}
use Rattle.sequence.specs.Leads.{lead_of_flaw, lead_of_setting, lead_of}
use Rattle.graphics.specs.Graphics.{with_header, with_notation, with_point, with_aperture, with_mode, with_quadrants, with_transform, with_region}
use Rattle.graphics.specs.declared.Graphics.{Graphics}
use Rattle.changes.specs.After.{going_to, with_format, with_unit, with_coded, after_setting, after_operation, after}
use Rattle.law_reading.specs.State as opened
use Rattle.law_reading.specs.State.{Room, Opened, State}
use Rattle.law_reading.specs.Steps.{passed, with_graphics, with_level, with_opened, with_apertures, with_macros, with_names, with_numbers, draw_step, flash_step, select_step, aperture_step, macro_step, block_start_step, repeat_start_step, block_ends, repeat_ends, block_end_step, repeat_end_step, file_attribute_step, setting_step, move_step, operation_step, coded_step, definition_step, bracket_step, deed_step, step_of}
use Rattle.law_kept.proofs.Spelt.{Steady, Spelt}
use Rattle.law_kept.proofs.Cut.{carried}

-- FS carries its format on, in reading as in the sequence of commands
block_graphics : (os : List Opened) (s : State) → (block_ends os s).graphics ≡ s.graphics
unfolding block_ends with_level with_opened with_apertures
block_graphics [] s = refl
block_graphics (opened.block n l ∷ os) s = refl
block_graphics (opened.repeat l ∷ os) s = refl

repeat_graphics : (os : List Opened) (s : State) → (repeat_ends os s).graphics ≡ s.graphics
unfolding repeat_ends with_level with_opened
repeat_graphics [] s = refl
repeat_graphics (opened.block n l ∷ os) s = refl
repeat_graphics (opened.repeat l ∷ os) s = refl

setting_format : (x : Setting) (g : Graphics) → (after_setting x g).header.format ≡ carried g.header.format (lead_of_setting x)
unfolding after_setting with_header with_notation with_mode with_quadrants with_transform with_region with_format with_unit with_coded lead_of_setting
setting_format setting.Linear g = refl
setting_format setting.Clockwise g = refl
setting_format setting.Counterclockwise g = refl
setting_format setting.SingleQuadrant g = refl
setting_format setting.MultiQuadrant g = refl
setting_format setting.RegionStart g = refl
setting_format setting.RegionEnd g = refl
setting_format (setting.Format f) g = refl
setting_format setting.Absolute g = refl
setting_format setting.Incremental g = refl
setting_format setting.Millimetres g = refl
setting_format setting.Inches g = refl
setting_format setting.CodedMillimetres g = refl
setting_format setting.CodedInches g = refl
setting_format setting.Halt g = refl
setting_format setting.Dark g = refl
setting_format setting.Clear g = refl
setting_format (setting.Mirror x y) g = refl
setting_format (setting.Rotation a rounded) g = refl
setting_format (setting.Scale a rounded) g = refl

-- no setting moves the current point
pub setting_point : (x : Setting) (g : Graphics) → (after_setting x g).point ≡ g.point
unfolding after_setting with_header with_notation with_mode with_quadrants with_transform with_region
setting_point setting.Linear g = refl
setting_point setting.Clockwise g = refl
setting_point setting.Counterclockwise g = refl
setting_point setting.SingleQuadrant g = refl
setting_point setting.MultiQuadrant g = refl
setting_point setting.RegionStart g = refl
setting_point setting.RegionEnd g = refl
setting_point (setting.Format f) g = refl
setting_point setting.Absolute g = refl
setting_point setting.Incremental g = refl
setting_point setting.Millimetres g = refl
setting_point setting.Inches g = refl
setting_point setting.CodedMillimetres g = refl
setting_point setting.CodedInches g = refl
setting_point setting.Halt g = refl
setting_point setting.Dark g = refl
setting_point setting.Clear g = refl
setting_point (setting.Mirror x y) g = refl
setting_point (setting.Rotation a rounded) g = refl
setting_point (setting.Scale a rounded) g = refl

-- the format that reading knows
abbrev pub format_in : State → Format
format_in s = s.graphics.header.format

module _ (room : Room) (t : List ℕ) (p : ℕ) where
  operation_format : (o : Operation) (s : State) → format_in (operation_step room p o s).next ≡ format_in s
  unfolding operation_step draw_step move_step flash_step passed with_graphics with_level after after_operation going_to with_point with_region
  operation_format (operation.Draw x y o) s = refl
  operation_format (operation.Move x y) s = refl
  operation_format (operation.Flash x y) s = refl

  coded_format : (x : Setting) (o : Operation) (s : State) → Steady x → format_in (coded_step room p x o s).next ≡ format_in s
  unfolding coded_step setting_step with_graphics
  coded_format x o s k = operation_format o (setting_step x s).next ∙ k s.graphics

  definition_format : (d : Definition) (s : State) → format_in (definition_step room t d s).next ≡ format_in s
  unfolding definition_step aperture_step macro_step with_apertures with_macros with_numbers
  definition_format (definition.Aperture n name ps rounded) s = refl
  definition_format (definition.Macro name blocks deep rounded) s = refl

  bracket_format : (b : Bracket) (s : State) → format_in (bracket_step room p b s).next ≡ format_in s
  unfolding bracket_step block_start_step block_end_step repeat_start_step repeat_end_step passed with_level with_opened with_apertures after with_point
  bracket_format (bracket.BlockStart n) s = refl
  bracket_format bracket.BlockEnd s = ap (λ (g : Graphics). g.header.format) (block_graphics s.opened (passed (Contain bracket.BlockEnd) p 0 s))
  bracket_format (bracket.RepeatStart nx ny dx dy rounded) s = refl
  bracket_format bracket.RepeatEnd s = ap (λ (g : Graphics). g.header.format) (repeat_graphics s.opened (passed (Contain bracket.RepeatEnd) p 0 s))

  deed_format : (d : Deed) (s : State) → format_in (deed_step t d s).next ≡ format_in s
  unfolding deed_step file_attribute_step with_names
  deed_format (deed.SetFile name value) s = refl
  deed_format (deed.SetAperture name value) s = refl
  deed_format (deed.SetObject name value) s = refl
  deed_format (deed.Delete name) s = refl
  deed_format deed.DeleteAll s = refl

  pub step_format : (f : Format) (u : List ℕ) (c : Command) (s : State) → Spelt f u c → format_in (step_of room t p c s).next ≡ carried (format_in s) (lead_of c)
  unfolding step_of setting_step select_step with_graphics with_aperture lead_of lead_of_flaw
  step_format f u (Broken flaw.NotForm) s k = refl
  step_format f u (Broken flaw.Unread) s k = refl
  step_format f u (Broken flaw.TooLong) s k = refl
  step_format f u Note s k = refl
  step_format f u End s k = refl
  step_format f u (Set x) s k = setting_format x s.graphics
  step_format f u (Operate o) s k = operation_format o s
  step_format f u (Coded x o) s k = coded_format x o s k.1
  step_format f u (Select n) s k = refl
  step_format f u (Define d) s k = definition_format d s
  step_format f u (Contain b) s k = bracket_format b s
  step_format f u (Attribute d) s k = deed_format d s
