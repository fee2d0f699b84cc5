-- What the call for an operation promises is a step of reading; a command that is none goes on as it was.
-- Assumes nothing.
use Rattle.faults.specs.declared.Rule.{Rule}
use Rattle.std.specs.Prelude.{Err, Ok, Result, ℕ, None, Option, Some}
use Prim.Native.Nat.{ℕ}
use mathlib.Core.Path.{◌≡◌, refl, subst}
use mathlib.Core.List.{List}
use Rattle.base.specs.Choose.{pick}
use Rattle.command.specs.declared.Command.{Command}
use Rattle.command.specs.declared.Command.TheVariants as command
use Rattle.graphics.specs.declared.Graphics.{Graphics}
use Rattle.command_rules.specs.Settings.{setting_fault}
use Rattle.faults.specs.Order.{sooner}
use Rattle.law_reading.specs.State.{State}
use Rattle.law_reading.specs.Steps.{Step, setting_step, operation_step, coded_step, step_of}
use Rattle.progress.specs.Lent.{Lent, room_of, with_entries}
use Rattle.progress.specs.Strokes.{with_stroke}
use Rattle.progress.specs.Knows.{Knows, Known, Follows, FollowsStroke}
use Rattle.progress.specs.declared.Progress.{Progress}
use Rattle.progress.specs.declared.Struck.{Struck}
use Rattle.progress.specs.declared.Struck.TheVariants.{Next, Fault, Other}
use Rattle.steps.specs.Coded.{held_in, code_fault, behind_code}
use Rattle.steps.specs.Steps.{behind_fault, Operates}
use Rattle.steps.proofs.Coded.{behind_is, none_held}
use Rattle.command.specs.declared.Operation.{Operation}

-- a command that has no operation leaves the entries, and has no code
pub operated_none : (fault place : ℕ) (h : Option Operation) (e e' : List ℕ) (p : Progress) → Known (λ w. w.entries ≡ e) p → Operates fault place h e e' p Other →
    (h ≡ None) × (e' ≡ e)
unfolding Operates FollowsStroke
operated_none fault place (Some o) e e' p k f = absurd (f k.lent k.state k.is k.knows)
operated_none fault place None e e' p k f = (refl, f.1)

pub operated_some : (fault place : ℕ) (h : Option Operation) (e e' : List ℕ) (p : Progress) (r : Struck) → Operates fault place h e e' p r → (r ≡ Other → ⊥) → h ≡ None → ⊥
unfolding Operates
operated_some fault place (Some o) e e' p r f some q = none_held q
operated_some fault place None e e' p r f some q = some f.0

pub behind_none : (c : Command) (p : Progress) → held_in c ≡ None → behind_code c p ≡ p
unfolding held_in behind_code
behind_none (command.Coded code o) p q = absurd (none_held q)
behind_none (command.Operate o) p q = refl
behind_none (command.Broken flaw) p q = refl
behind_none command.Note p q = refl
behind_none command.End p q = refl
behind_none (command.Set s) p q = refl
behind_none (command.Select n) p q = refl
behind_none (command.Define d) p q = refl
behind_none (command.Contain b) p q = refl
behind_none (command.Attribute d) p q = refl

-- how far reading has come after a stroke from p on
unfoldable pub stepped_by : Progress → Struck → Result Progress Rule
stepped_by p (Next s) = Ok (with_stroke s p)
stepped_by p (Fault n) = Err n
stepped_by p Other = Ok p

follows_stroke : (K : Progress → State → Type 0) (t : Step) (p : Progress) (r : Struck) → FollowsStroke K t p r → Follows K t (stepped_by p r)
unfolding FollowsStroke stepped_by
follows_stroke K t p (Next s) f = f
follows_stroke K t p (Fault n) f = f
follows_stroke K t p Other f = absurd f

module _ (w : Lent) (e' text : List ℕ) (place : ℕ) (p : Progress) (s : State) (k : Knows w p s) (r : Struck) (some : r ≡ Other → ⊥) where
  pub strikes : (c : Command) → Operates (code_fault p.graphics c) place (held_in c) w.entries e' (behind_code c p) r →
      Follows (Knows (with_entries e' w)) (step_of (room_of w) text place c s) (stepped_by (behind_code c p) r)
  unfolding Operates code_fault held_in behind_code step_of coded_step setting_step sooner pick
  strikes (command.Operate o) f = follows_stroke _ _ _ r (f w s refl k)
  strikes (command.Coded code o) f =
      let behind = (setting_step code s).next in
      follows_stroke _ _ _ r
      (subst (λ (g : Graphics). FollowsStroke (Knows (with_entries e' w)) (behind_fault (setting_fault g code) (operation_step (room_of w) place o behind)) (behind_code (command.Coded code o) p) r)
      k.graphics (f w behind refl (behind_is w p s k code refl refl)))
  strikes (command.Broken flaw) f = absurd (some f.0)
  strikes command.Note f = absurd (some f.0)
  strikes command.End f = absurd (some f.0)
  strikes (command.Set x) f = absurd (some f.0)
  strikes (command.Select n) f = absurd (some f.0)
  strikes (command.Define d) f = absurd (some f.0)
  strikes (command.Contain b) f = absurd (some f.0)
  strikes (command.Attribute d) f = absurd (some f.0)
