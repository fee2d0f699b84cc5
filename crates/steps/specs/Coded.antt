-- The operation of a command, alone or after a G code: "of the faults of the code and of the operation .. the one tested first decides"
-- (decision 516).
use Rattle.std.specs.Prelude.{ℕ, None, Option, Some, Result, Ok, Err, ⊤}
use Rattle.command.specs.declared.Command.{Command}
use Rattle.command.specs.declared.Command.TheVariants as command
use Rattle.graphics.specs.declared.Graphics.{Graphics}
use Rattle.changes.specs.After.{after_setting}
use Rattle.command_rules.specs.Settings.{setting_fault}
use Rattle.faults.specs.Rule.{first_of}
use Rattle.faults.specs.declared.Rule.{Rule}
use Rattle.progress.specs.Parts.{with_graphics}
use Rattle.progress.specs.declared.Progress.{Progress}
use Rattle.progress.specs.declared.Stroke.{Stroke}
use Rattle.progress.specs.declared.Struck.{Struck}
use Rattle.progress.specs.declared.Struck.TheVariants.{Next, Fault, Other}
use Rattle.command.specs.declared.Operation.{Operation}

unfoldable pub held_in : Command → Option Operation
held_in (command.Operate o) = Some o
held_in (command.Coded code o) = Some o
held_in (command.Broken flaw) = None
held_in command.Note = None
held_in command.End = None
held_in (command.Set s) = None
held_in (command.Select n) = None
held_in (command.Define d) = None
held_in (command.Contain b) = None
held_in (command.Attribute d) = None

-- the fault of the code before it, 0 for none
unfoldable pub code_fault : Graphics → Command → ℕ
code_fault g (command.Coded code o) = setting_fault g code
code_fault g (command.Operate o) = 0
code_fault g (command.Broken flaw) = 0
code_fault g command.Note = 0
code_fault g command.End = 0
code_fault g (command.Set s) = 0
code_fault g (command.Select n) = 0
code_fault g (command.Define d) = 0
code_fault g (command.Contain b) = 0
code_fault g (command.Attribute d) = 0

-- how far reading has come after that code
unfoldable pub behind_code : Command → Progress → Progress
behind_code (command.Coded code o) p = with_graphics (after_setting code p.graphics) p
behind_code (command.Operate o) p = p
behind_code (command.Broken flaw) p = p
behind_code command.Note p = p
behind_code command.End p = p
behind_code (command.Set s) p = p
behind_code (command.Select n) p = p
behind_code (command.Define d) p = p
behind_code (command.Contain b) p = p
behind_code (command.Attribute d) p = p

-- a stroke after a code with this fault, if it has one
unfoldable pub stroke_after : Result ⊤ Rule → Stroke → Struck
stroke_after (Ok _) s = Next s
stroke_after (Err rule) s = Fault rule

-- the code's fault, if it has one, and the outcome of the operation in the state after the code
unfoldable pub joined : Result ⊤ Rule → Struck → Struck
joined fault (Fault rule) = Fault (first_of fault rule)
joined fault (Next s) = stroke_after fault s
joined fault Other = Other
