-- What a step of the reader promises: whatever reading knows, the step is that of the definition.
use Rattle.faults.specs.declared.Rule.{Rule}
use Rattle.std.specs.Prelude.{ℕ, ◌≤◌, ◌≡◌, Bool, List, length, Result, None, Option, Some}
use Rattle.std.proofs.Math.Seq.{slice}
use Rattle.command.specs.declared.Span.{Span}
use Rattle.command.specs.declared.Deed.{Deed}
use Rattle.command.specs.declared.Deed.TheVariants.{SetFile}
use Rattle.command.specs.declared.Command.TheVariants.{Attribute}
use Rattle.sequence.specs.declared.Placed.{Placed}
use Rattle.law_bounds.specs.Bounded.{Bounded}
use Rattle.law_reading.specs.State.{State}
use Rattle.law_reading.specs.Apertures.{is_among}
use Rattle.faults.specs.Order.{sooner}
use Rattle.law_reading.specs.Steps.{Step, does, part, operation_step}
use Rattle.law_reading.specs.Reading.{step_at}
use Rattle.progress.specs.Lent.{Lent, room_of, with_entries}
use Rattle.progress.specs.Knows.{Knows, Follows, StrikesTo}
use Rattle.progress.specs.declared.Progress.{Progress}
use Rattle.progress.specs.declared.Struck.{Struck}
use Rattle.progress.specs.declared.Struck.TheVariants.{Other}
use Rattle.command.specs.declared.Operation.{Operation}

-- a command as the scanner and the recogniser leave it
pub record Sound (file : List ℕ) (c : Placed) : Type 0 where
  pub ordered : c.from ≤ c.end
  pub inside : c.end ≤ length file
  pub bounded : Bounded (slice c.from c.end file) c.command

-- `again` says of a TF with this text whether its name was set before
unfoldable pub AgainBy : List ℕ → Deed → Bool → State → Type 0
AgainBy text d again s = (name value : Span) → d ≡ SetFile name value → again ≡ is_among (part text name) s.names

unfoldable pub Again : List ℕ → Placed → Bool → State → Type 0
Again file c again s = (d : Deed) → c.command ≡ Attribute d → AgainBy (slice c.from c.end file) d again s

-- w before the step, w' after it
abbrev pub Reads : Lent → Lent → Progress → Placed → Bool → Result Progress Rule → Type 0
Reads w w' p c again r = (s : State) → Knows w p s → Again w.file c again s → Follows (Knows w') (step_at (room_of w) w.file c s) r

-- the step of an operation after a code with this fault
abbrev pub behind_fault : ℕ → Step → Step
behind_fault fault t = does (sooner fault t.fault) t.next

-- e before it, e' after it: the operation of a command, from p on; a command that has none leaves the entries
unfoldable pub Operates : ℕ → ℕ → Option Operation → List ℕ → List ℕ → Progress → Struck → Type 0
Operates fault place (Some o) e e' p r = StrikesTo (λ room s. behind_fault fault (operation_step room place o s)) (λ w. w.entries ≡ e) (with_entries e') p r
Operates fault place None e e' p r = (r ≡ Other) × (e' ≡ e)
