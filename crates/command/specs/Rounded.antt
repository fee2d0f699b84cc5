-- How many decimals of a command were rounded: "AD, AM, SR, LR and LS each have to pass that on" (02, [1]).
use Rattle.std.specs.Prelude.{ℕ, Bool, true, false}
use Rattle.command.specs.declared.Command.{Command}
use Rattle.command.specs.declared.Command.TheVariants.{Broken, Note, End, Set, Operate, Coded, Select, Define, Contain, Attribute}
use Rattle.command.specs.declared.Setting.{Setting}
use Rattle.command.specs.declared.Setting.TheVariants as setting
use Rattle.command.specs.declared.Definition.{Definition}
use Rattle.command.specs.declared.Definition.TheVariants as definition
use Rattle.command.specs.declared.Bracket.{Bracket}
use Rattle.command.specs.declared.Bracket.TheVariants as bracket

-- 1 where a decimal was rounded
unfoldable pub counted : Bool → ℕ
counted true = 1
counted false = 0

-- LR and LS
unfoldable pub rounded_in_setting : Setting → ℕ
rounded_in_setting (setting.Rotation angle rounded) = rounded
rounded_in_setting (setting.Scale factor rounded) = rounded
rounded_in_setting setting.Linear = 0
rounded_in_setting setting.Clockwise = 0
rounded_in_setting setting.Counterclockwise = 0
rounded_in_setting setting.SingleQuadrant = 0
rounded_in_setting setting.MultiQuadrant = 0
rounded_in_setting setting.RegionStart = 0
rounded_in_setting setting.RegionEnd = 0
rounded_in_setting (setting.Format f) = 0
rounded_in_setting setting.Absolute = 0
rounded_in_setting setting.Incremental = 0
rounded_in_setting setting.Millimetres = 0
rounded_in_setting setting.Inches = 0
rounded_in_setting setting.CodedMillimetres = 0
rounded_in_setting setting.CodedInches = 0
rounded_in_setting setting.Halt = 0
rounded_in_setting setting.Dark = 0
rounded_in_setting setting.Clear = 0
rounded_in_setting (setting.Mirror x y) = 0

-- AD and AM
unfoldable pub rounded_in_definition : Definition → ℕ
rounded_in_definition (definition.Aperture number name parameters rounded) = rounded
rounded_in_definition (definition.Macro name blocks deep rounded) = rounded

-- SR
unfoldable pub rounded_in_bracket : Bracket → ℕ
rounded_in_bracket (bracket.RepeatStart nx ny dx dy rounded) = rounded
rounded_in_bracket (bracket.BlockStart number) = 0
rounded_in_bracket bracket.BlockEnd = 0
rounded_in_bracket bracket.RepeatEnd = 0

unfoldable pub rounded_of : Command → ℕ
rounded_of (Set s) = rounded_in_setting s
rounded_of (Define d) = rounded_in_definition d
rounded_of (Contain b) = rounded_in_bracket b
rounded_of (Broken flaw) = 0
rounded_of Note = 0
rounded_of End = 0
rounded_of (Operate o) = 0
rounded_of (Coded code o) = 0
rounded_of (Select number) = 0
rounded_of (Attribute deed) = 0
