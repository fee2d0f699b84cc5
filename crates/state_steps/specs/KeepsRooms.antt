-- The commands that keep the rooms: those that read and write none of the lent rooms, but D02. They set the graphics state, or nothing (01, State).
use Rattle.std.specs.Prelude.{ℕ, Bool, true, false}
use Rattle.command.specs.Flaws.{flaw_number}
use Rattle.command.specs.declared.Deed.{Deed}
use Rattle.command.specs.declared.Deed.TheVariants as deed
use Rattle.command.specs.declared.Command.{Command}
use Rattle.command.specs.declared.Command.TheVariants.{Broken, Note, End, Set, Operate, Coded, Select, Define, Contain, Attribute}
use Rattle.graphics.specs.declared.Graphics.{Graphics}
use Rattle.graphics.specs.declared.Level.{Level}
use Rattle.command_rules.specs.Settings.{setting_fault}
use Rattle.command_rules.specs.Rules.{region_fault, end_fault}

-- all but TF, whose name is looked for among those that are set
unfoldable pub deed_keeps_rooms : Deed → Bool
deed_keeps_rooms (deed.SetFile name value) = false
deed_keeps_rooms (deed.SetAperture name value) = true
deed_keeps_rooms (deed.SetObject name value) = true
deed_keeps_rooms (deed.Delete name) = true
deed_keeps_rooms deed.DeleteAll = true

unfoldable pub keeps_rooms : Command → Bool
keeps_rooms (Broken flaw) = true
keeps_rooms Note = true
keeps_rooms End = true
keeps_rooms (Set s) = true
keeps_rooms (Operate o) = false
keeps_rooms (Coded code o) = false
keeps_rooms (Attribute d) = deed_keeps_rooms d
keeps_rooms (Select n) = false
keeps_rooms (Define d) = false
keeps_rooms (Contain b) = false

-- the fault of a command that keeps the rooms, 0 for none; of the others nothing is asked here
unfoldable pub deed_fault : Graphics → Deed → ℕ
deed_fault g (deed.SetFile name value) = 0
deed_fault g (deed.SetAperture name value) = region_fault g
deed_fault g (deed.SetObject name value) = region_fault g
deed_fault g (deed.Delete name) = region_fault g
deed_fault g deed.DeleteAll = region_fault g

unfoldable pub fault_of : Graphics → Level → Command → ℕ
fault_of g l (Broken flaw) = flaw_number flaw
fault_of g l Note = 0
fault_of g l End = end_fault g l
fault_of g l (Set s) = setting_fault g s
fault_of g l (Operate o) = 0
fault_of g l (Coded code o) = 0
fault_of g l (Attribute d) = deed_fault g d
fault_of g l (Select n) = 0
fault_of g l (Define d) = 0
fault_of g l (Contain b) = 0
