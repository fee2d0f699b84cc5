-- "One command changes one graphics state" (01, State): its number, and the state after it (decision 273). Every rule is judged here, by
-- the graphics state, what stands open, the command, and what only the stores know of it (decision 470).
use Rattle.std.specs.Prelude.{ℕ, cond, eqb, Err, Ok, Result, ⊤}
use Rattle.base.specs.Or.{◌or◌}
use Rattle.command.specs.Flaws.{flaw_number}
use Rattle.command.specs.declared.Setting.{Setting}
use Rattle.command.specs.declared.Operation.{Operation}
use Rattle.command.specs.declared.Operation.TheVariants as operation
use Rattle.command.specs.declared.Definition.{Definition}
use Rattle.command.specs.declared.Definition.TheVariants as definition
use Rattle.command.specs.declared.Bracket.{Bracket}
use Rattle.command.specs.declared.Bracket.TheVariants as bracket
use Rattle.command.specs.declared.Deed.{Deed}
use Rattle.command.specs.declared.Deed.TheVariants as deed
use Rattle.command.specs.declared.Command.{Command}
use Rattle.command.specs.declared.Command.TheVariants.{Broken, Note, End, Set, Operate, Coded, Select, Define, Contain, Attribute}
use Rattle.graphics.specs.Graphics.{with_aperture}
use Rattle.graphics.specs.Level.{block, repeat}
use Rattle.graphics.specs.declared.Graphics.{Graphics}
use Rattle.graphics.specs.declared.Level.{Level}
use Rattle.changes.specs.After.{after_setting, after}
use Rattle.operation_rules.specs.Faults.{draw_fault, move_fault, flash_fault}
use Rattle.command_rules.specs.Bounds.{is_repeat}
use Rattle.command_rules.specs.Settings.{setting_fault}
use Rattle.command_rules.specs.Rules.{
  region_fault,
  select_fault,
  aperture_fault,
  macro_fault,
  block_start_fault,
  closing_fault,
  repeat_start_fault,
  file_attribute_fault,
  end_fault,
}
use Rattle.faults.specs.Order.{sooner}
use Rattle.state_call.specs.declared.Known.{Known}
use Rattle.state_call.specs.declared.Stepped.{Stepped}
use Rattle.state_call.specs.declared.ParameterError.TheVariants as parameter_error
use Rattle.state_call.specs.declared.ParameterError.{ParameterError}

-- "9: macro expression", "10: parameter outside its rule"
unfoldable pub worked_number : Result ⊤ ParameterError → ℕ
worked_number (Ok _) = 0
worked_number (Err parameter_error.Undefined) = 9
worked_number (Err parameter_error.Unruly) = 10

-- the lowest rule that a command breaks, 0 for none, by the tables of crates/operation_rules and crates/command_rules
unfoldable pub operation_fault : Graphics → Level → Operation → Known → ℕ
operation_fault g l (operation.Draw x y o) k = draw_fault g l k.entries x y o
operation_fault g l (operation.Move x y) k = move_fault g x y
operation_fault g l (operation.Flash x y) k = flash_fault g l k.entries x y

-- "The code takes effect first, then the operation in the state after it"; of their faults the one that is tested first (02, [9];
-- decision 516)
unfoldable pub coded_fault : Graphics → Level → Setting → Operation → Known → ℕ
coded_fault g l code o k = sooner (setting_fault g code) (operation_fault (after_setting code g) l o k)

unfoldable pub definition_fault : Graphics → Definition → Known → ℕ
definition_fault g (definition.Aperture n name ps rounded) k =
    aperture_fault g (k.taken or k.unknown) (worked_number k.worked) k.full
definition_fault g (definition.Macro name blocks deep rounded) k = macro_fault g k.taken deep k.full

unfoldable pub bracket_fault : Graphics → Level → Bracket → Known → ℕ
bracket_fault g l (bracket.BlockStart n) k = block_start_fault g l k.taken (eqb k.entries 0 or k.full)
bracket_fault g l bracket.BlockEnd k = closing_fault g l block
bracket_fault g l (bracket.RepeatStart nx ny dx dy rounded) k = repeat_start_fault g l (is_repeat nx ny dx dy) (eqb k.entries 0)
bracket_fault g l bracket.RepeatEnd k = closing_fault g l repeat

unfoldable pub deed_fault : Graphics → Deed → Known → ℕ
deed_fault g (deed.SetFile name value) k = file_attribute_fault g k.taken
deed_fault g (deed.SetAperture name value) k = region_fault g
deed_fault g (deed.SetObject name value) k = region_fault g
deed_fault g (deed.Delete name) k = region_fault g
deed_fault g deed.DeleteAll k = region_fault g

unfoldable pub fault_of : Graphics → Level → Command → Known → ℕ
fault_of g l (Broken flaw) k = flaw_number flaw
fault_of g l Note k = 0
fault_of g l End k = end_fault g l
fault_of g l (Set s) k = setting_fault g s
fault_of g l (Operate o) k = operation_fault g l o k
fault_of g l (Coded code o) k = coded_fault g l code o k
fault_of g l (Select n) k = select_fault g k.aperture.set
fault_of g l (Define d) k = definition_fault g d k
fault_of g l (Contain b) k = bracket_fault g l b k
fault_of g l (Attribute d) k = deed_fault g d k

-- the state after a command that breaks none: Dn selects the aperture that it names
unfoldable pub behind : Graphics → Command → Known → Graphics
behind g (Select n) k = with_aperture k.aperture g
behind g (Broken flaw) k = after (Broken flaw) g
behind g Note k = after Note g
behind g End k = after End g
behind g (Set s) k = after (Set s) g
behind g (Operate o) k = after (Operate o) g
behind g (Coded code o) k = after (Coded code o) g
behind g (Define d) k = after (Define d) g
behind g (Contain b) k = after (Contain b) g
behind g (Attribute d) k = after (Attribute d) g

-- a refused command leaves the state as it was
unfoldable pub stepped_of : Graphics → Level → Command → Known → Stepped
stepped_of g l c k = record { number = fault_of g l c k; graphics = cond (eqb (fault_of g l c k) 0) (behind g c k) g }
