-- The rules of each setting (01, Numbers the reader answers): its own, or none where it is allowed everywhere.
use Rattle.std.specs.Prelude.{ℕ, []}
use Rattle.base.specs.Faults.{Table, first_fault}
use Rattle.command.specs.declared.Setting.{Setting}
use Rattle.command.specs.declared.Setting.TheVariants as setting
use Rattle.graphics.specs.declared.Graphics.{Graphics}
use Rattle.operation_rules.specs.Faults.{region_end_rules}
use Rattle.command_rules.specs.Rules.{region_rules, format_rules, unit_rules, scale_rules}

unfoldable pub setting_rules : Graphics → Setting → Table
setting_rules g setting.Linear = []
setting_rules g setting.Clockwise = []
setting_rules g setting.Counterclockwise = []
setting_rules g setting.SingleQuadrant = []
setting_rules g setting.MultiQuadrant = []
setting_rules g setting.Absolute = region_rules g
setting_rules g setting.Incremental = region_rules g
setting_rules g setting.CodedMillimetres = region_rules g
setting_rules g setting.CodedInches = region_rules g
setting_rules g setting.Halt = region_rules g
setting_rules g setting.RegionStart = region_rules g
setting_rules g setting.RegionEnd = region_end_rules g
setting_rules g (setting.Format f) = format_rules g
setting_rules g setting.Millimetres = unit_rules g
setting_rules g setting.Inches = unit_rules g
setting_rules g setting.Dark = region_rules g
setting_rules g setting.Clear = region_rules g
setting_rules g (setting.Mirror x y) = region_rules g
setting_rules g (setting.Rotation a rounded) = region_rules g
setting_rules g (setting.Scale a rounded) = scale_rules g a

unfoldable pub setting_fault : Graphics → Setting → ℕ
setting_fault g s = first_fault (setting_rules g s)
