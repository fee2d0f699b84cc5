-- How a command leads on: 4 or 30, the end of the file's commands, or the next command (01, What is read; 02, [9]; decisions 41 and 42).
use Rattle.command.specs.Flaws.{flaw_number}
use Rattle.command.specs.declared.Flaw.{Flaw}
use Rattle.command.specs.declared.Flaw.TheVariants as flaw
use Rattle.command.specs.declared.Setting.{Setting}
use Rattle.command.specs.declared.Setting.TheVariants as setting
use Rattle.command.specs.declared.Command.{Command}
use Rattle.command.specs.declared.Command.TheVariants as cmd
use Rattle.sequence.specs.declared.Lead.{Lead}
use Rattle.sequence.specs.declared.Lead.TheVariants.{Broken, Last, Format, Other}

-- one not of its form is 4, one that is not read 30; a number out of its range is the reading's matter
unfoldable pub lead_of_flaw : Flaw → Lead
lead_of_flaw flaw.NotForm = Broken (flaw_number flaw.NotForm)
lead_of_flaw flaw.Unread = Broken (flaw_number flaw.Unread)
lead_of_flaw flaw.TooLong = Other

-- FS says how coordinates are written from there on
unfoldable pub lead_of_setting : Setting → Lead
lead_of_setting (setting.Format f) = Format f
lead_of_setting setting.Linear = Other
lead_of_setting setting.Clockwise = Other
lead_of_setting setting.Counterclockwise = Other
lead_of_setting setting.SingleQuadrant = Other
lead_of_setting setting.MultiQuadrant = Other
lead_of_setting setting.RegionStart = Other
lead_of_setting setting.RegionEnd = Other
lead_of_setting setting.Absolute = Other
lead_of_setting setting.Incremental = Other
lead_of_setting setting.Millimetres = Other
lead_of_setting setting.Inches = Other
lead_of_setting setting.CodedMillimetres = Other
lead_of_setting setting.CodedInches = Other
lead_of_setting setting.Halt = Other
lead_of_setting setting.Dark = Other
lead_of_setting setting.Clear = Other
lead_of_setting (setting.Mirror x y) = Other
lead_of_setting (setting.Rotation angle rounded) = Other
lead_of_setting (setting.Scale factor rounded) = Other

-- M02 is the last
unfoldable pub lead_of : Command → Lead
lead_of (cmd.Broken f) = lead_of_flaw f
lead_of cmd.End = Last
lead_of (cmd.Set s) = lead_of_setting s
lead_of cmd.Note = Other
lead_of (cmd.Operate o) = Other
lead_of (cmd.Coded code o) = Other
lead_of (cmd.Select n) = Other
lead_of (cmd.Define d) = Other
lead_of (cmd.Contain b) = Other
lead_of (cmd.Attribute d) = Other
