-- A command that breaks no rule goes to a point within 10^12, by the tables of D01, D02 and D03.
-- Assumes nothing.
use Prim.Native.Nat.{◌^◌}
use mathlib.Core.Path.{◌≡◌}
use Rattle.points.specs.Points.{Within}
use Rattle.command.specs.declared.Setting.{Setting}
use Rattle.command.specs.declared.Operation.{Operation}
use Rattle.command.specs.declared.Operation.TheVariants as operation
use Rattle.command.specs.declared.Command.{Command}
use Rattle.command.specs.declared.Command.TheVariants.{Broken, Note, End, Set, Operate, Coded, Select, Define, Contain, Attribute}
use Rattle.graphics.specs.declared.Graphics.{Graphics}
use Rattle.graphics.specs.declared.Level.{Level}
use Rattle.changes.specs.After.{after_setting, goal, Reached}
use Rattle.operation_rules.proofs.Reached.{draw_reached, move_reached, flash_reached}
use Rattle.command_rules.specs.Settings.{setting_fault}
use Rattle.faults.proofs.Laws.{sooner_first}
use Rattle.state_call.specs.declared.Known.{Known}
use Rattle.state_call.specs.Stepped.{operation_fault, coded_fault, fault_of}

operation_reached : (g : Graphics) (l : Level) (o : Operation) (k : Known) → operation_fault g l o k ≡ 0 → Within (10 ^ 12) (goal o g)
unfolding operation_fault goal
operation_reached g l (operation.Draw x y o) k e = draw_reached g l k.entries x y o e
operation_reached g l (operation.Move x y) k e = move_reached g x y e
operation_reached g l (operation.Flash x y) k e = flash_reached g l k.entries x y e

coded_reached : (g : Graphics) (l : Level) (code : Setting) (o : Operation) (k : Known) → coded_fault g l code o k ≡ 0 → Within (10 ^ 12) (goal o (after_setting code g))
unfolding coded_fault
coded_reached g l code o k e =
    let neither = (sooner_first (setting_fault g code) (operation_fault (after_setting code g) l o k)).none e in
    operation_reached (after_setting code g) l o k neither.1

pub reached : (g : Graphics) (l : Level) (c : Command) (k : Known) → fault_of g l c k ≡ 0 → Reached c g
unfolding fault_of Reached
reached g l (Operate o) k e = operation_reached g l o k e
reached g l (Coded code o) k e = coded_reached g l code o k e
reached g l (Broken flaw) k e = tt
reached g l Note k e = tt
reached g l End k e = tt
reached g l (Set s) k e = tt
reached g l (Select n) k e = tt
reached g l (Define d) k e = tt
reached g l (Contain b) k e = tt
reached g l (Attribute d) k e = tt
