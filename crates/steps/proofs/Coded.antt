-- An operation after a G code steps as reading says: the state after the code is known as the one before it is.
-- Assumes nothing.
use Rattle.std.specs.Prelude.{None, Option, Some, Result, Ok, Err, ⊤}
use Prim.Native.Nat.{ℕ, ◌≤◌}
use mathlib.Core.Path.{◌≡◌, refl, sym, ap, ◌∙◌}
use mathlib.Core.Bool.{Bool, true, false, false≢true}
use native.Mathlib.Omega.{arith}
use Rattle.command.specs.declared.Setting.{Setting}
use Rattle.command.specs.declared.Setting.TheVariants as setting
use Rattle.command.specs.declared.Operation as operation
use Rattle.command.specs.declared.Command.{Command}
use Rattle.command.specs.declared.Command.TheVariants as command
use Rattle.graphics.specs.declared.Graphics.{Graphics}
use Rattle.graphics.specs.Graphics.{with_mode}
use Rattle.changes.specs.After.{after_setting, mode_of}
use Rattle.faults.specs.Order.{sooner}
use Rattle.faults.specs.Rule.{number_of_rule, number_told}
use Rattle.faults.specs.declared.Rule.{Rule}
use Rattle.faults.proofs.Rules.{first_told, only_first}
use Rattle.law_reading.specs.State.{State}
use Rattle.law_reading.specs.Steps.{Step, setting_step}
use Rattle.progress.specs.Parts.{with_graphics}
use Rattle.progress.specs.Lent.{Lent}
use Rattle.progress.specs.Knows.{Knows, Known, Follows, FollowsStroke}
use Rattle.progress.specs.declared.Progress.{Progress}
use Rattle.progress.specs.declared.Struck.{Struck}
use Rattle.progress.specs.declared.Struck.TheVariants.{Next, Fault, Other}
use Rattle.state_steps.proofs.Keeps.{keeps_itself, still_known, setting_keeps}
use Rattle.steps.specs.Coded.{behind_code, joined, stroke_after}
use Rattle.steps.specs.Steps.{behind_fault}
use Rattle.command.specs.declared.Operation.{Operation}

-- no fault of the operation leaves that of the code
pub sooner_none : (a : ℕ) → sooner a 0 ≡ a
sooner_none a = sym (only_first a)

-- the state after a code, as the code comes to it
pub behind_is : (w : Lent) (p : Progress) (s : State) → Knows w p s → (code : Setting) {g : Graphics} {q : Progress}
    → g ≡ after_setting code p.graphics → q ≡ with_graphics g p → Knows w q (setting_step code s).next
unfolding setting_step
behind_is w p s k code a e =
    rw (e, a, k.graphics) (still_known w p s k _ (setting_keeps s.graphics (keeps_itself w p s k) code))

-- a setting that has a mode sets the mode alone
pub mode_set : (s : Setting) (g : Graphics) → 1 ≤ mode_of s → after_setting s g ≡ with_mode (mode_of s) g
unfolding mode_of after_setting
mode_set (setting.Format f) g l = absurd (omega (arith, l))
mode_set setting.Absolute g l = absurd (omega (arith, l))
mode_set setting.Incremental g l = absurd (omega (arith, l))
mode_set setting.Millimetres g l = absurd (omega (arith, l))
mode_set setting.Inches g l = absurd (omega (arith, l))
mode_set setting.CodedMillimetres g l = absurd (omega (arith, l))
mode_set setting.CodedInches g l = absurd (omega (arith, l))
mode_set setting.Linear g l = refl
mode_set setting.Clockwise g l = refl
mode_set setting.Counterclockwise g l = refl
mode_set setting.SingleQuadrant g l = absurd (omega (arith, l))
mode_set setting.MultiQuadrant g l = absurd (omega (arith, l))
mode_set setting.Dark g l = absurd (omega (arith, l))
mode_set setting.Clear g l = absurd (omega (arith, l))
mode_set (setting.Mirror x y) g l = absurd (omega (arith, l))
mode_set (setting.Rotation a rounded) g l = absurd (omega (arith, l))
mode_set (setting.Scale a rounded) g l = absurd (omega (arith, l))
mode_set setting.RegionStart g l = absurd (omega (arith, l))
mode_set setting.RegionEnd g l = absurd (omega (arith, l))
mode_set setting.Halt g l = absurd (omega (arith, l))

-- an operation is held, or none is
is_some : Option Operation → Bool
is_some (Some o) = true
is_some None = false

pub none_held : {o : operation.Operation} → Some o ≡ None → ⊥
unfolding is_some
none_held e = false≢true (sym (ap is_some e))

-- an operation, and the fault of the code before it
pub joined_strikes : (K : Progress → State → Type 0) (t : Step) (p : Progress) (fault : Result ⊤ Rule) (r : Struck) → FollowsStroke K t p r →
    FollowsStroke K (behind_fault (number_told fault) t) p (joined fault r)
unfolding FollowsStroke Follows joined stroke_after number_told
joined_strikes K t p fault (Fault rule) f = ap (sooner (number_told fault)) f ∙ sym (first_told fault rule)
joined_strikes K t p fault Other f = f
joined_strikes K t p (Ok _) (Next q) f = (rw f.0 (sooner_none 0), f.1)
joined_strikes K t p (Err rule) (Next q) f = rw f.0 (sooner_none (number_of_rule rule))

-- what is known before a command is known after its code
pub known_behind : (c : Command) (lends : Lent → Type 0) (p : Progress) → Known lends p → Known lends (behind_code c p)
unfolding behind_code
known_behind (command.Coded code o) lends p k = record {
  lent = k.lent;
  state = (setting_step code k.state).next;
  is = k.is;
  knows = behind_is k.lent p k.state k.knows code refl refl;
}
known_behind (command.Operate o) lends p k = k
known_behind (command.Broken flaw) lends p k = k
known_behind command.Note lends p k = k
known_behind command.End lends p k = k
known_behind (command.Set x) lends p k = k
known_behind (command.Select n) lends p k = k
known_behind (command.Define d) lends p k = k
known_behind (command.Contain b) lends p k = k
known_behind (command.Attribute d) lends p k = k
