-- The reading of a file command by command: what is known at a place leads to the answer of the whole.
-- Assumes nothing.
use Rattle.faults.proofs.Rules.{above_none}
use Rattle.faults.specs.Rule.{number_of_rule}
use Rattle.faults.specs.declared.Rule.{Rule}
use Rattle.std.specs.Prelude.{Err, Ok, Result, ℕ, None}
use Rattle.formats.specs.declared.Format.{Format}
use Prim.Native.Nat.{ℕ, ◌+◌, ◌≤◌}
use mathlib.Core.Path.{◌≡◌, refl, sym, ap, ◌∙◌, subst}
use mathlib.Core.Bool.{Bool, true, false}
use mathlib.Core.List.{List, [], ◌∷◌}
use native.Mathlib.Omega.{arith}
use lib.Dec.{eqb}
use lib.ListN.{length}
use lib.Seq.{slice}
use borrow.Author.Tests.{eq-eqb, ne_eqb}
use Rattle.book.specs.declared.Book.{Book}
use Rattle.scan.specs.Tail.{tail_of}
use Rattle.command.specs.Rounded.{rounded_of}
use Rattle.command.specs.declared.Command.{Command}
use Rattle.command.specs.declared.Command.TheVariants as cmd
use Rattle.sequence.specs.Turns.{turn_of, tail_fault}
use Rattle.sequence.specs.declared.Placed.{Placed}
use Rattle.sequence.specs.declared.Refusal.{Refusal}
use Rattle.sequence.specs.declared.Turn.{Turn}
use Rattle.sequence.specs.declared.Turn.TheVariants as turn
use Rattle.sequence.proofs.Walk.{walk, walk_fault, walk_last, walk_more, more_onward}
use Rattle.command_rules.specs.Rules.{end_fault}
use Rattle.law_reading.specs.State.{Room, State}
use Rattle.law_reading.specs.Steps.{step_of}
use Rattle.law_reading.specs.Reading.{Answer, accepted, refused, step_at, read_on}
use Rattle.progress.specs.Lent.{Lent}
use Rattle.progress.specs.Knows.{Knows, Follows}
use Rattle.progress.specs.declared.Progress.{Progress}
use Rattle.steps.specs.Coded.{held_in}
use Rattle.steps.specs.Steps.{Sound, Again}
use Rattle.running.specs.Ends.{settled, Ends}
use Rattle.running.proofs.Turns.{SoundTurn, turn_sound}
use Rattle.running.proofs.After.{UnitGiven, unit_low, unit_after}
use Rattle.running.proofs.Counting.{all_of, Counted, counted_last, counted_more}
use Rattle.running.proofs.Naming.{NamesAt}

-- from `at` on, after this format of FS; s is what is known, so many names are set and so many decimals rounded, and what is left
-- to read gives the answer
pub record Running (book : Book) (file : List ℕ) (room : Room) (answer : Answer) (w : Lent) (p : Progress) (n : Format) (at set rounded : ℕ) (s : State) : Type 0 where
  pub within : at ≤ length file
  pub knows : Knows w p s
  pub unit : UnitGiven s.graphics
  pub names : NamesAt book file at set s.names
  pub counted : Counted book file n at rounded
  pub leads : read_on room file (walk book n file at).commands (walk book n file at).fault s ≡ answer

read_stops : (room : Room) (file : List ℕ) (f : Refusal) (s : State) (answer : Answer) → read_on room file [] f s ≡ answer → eqb f.number 0 ≡ false →
    answer ≡ refused f.number f.place
unfolding read_on
read_stops room file f s answer q e = sym q ∙ rw (e, read_on)

read_accepts : (room : Room) (file : List ℕ) (f : Refusal) (s : State) (answer : Answer) → read_on room file [] f s ≡ answer → eqb f.number 0 ≡ true → answer ≡ accepted s
unfolding read_on
read_accepts room file f s answer q e = sym q ∙ rw (e, read_on)

read_refuses : (room : Room) (file : List ℕ) (c : Placed) (cs : List Placed) (f : Refusal) (s : State) (answer : Answer) (k : ℕ) →
    read_on room file (c ∷ cs) f s ≡ answer → (step_at room file c s).fault ≡ k → 1 ≤ k → answer ≡ refused k c.place
unfolding read_on
read_refuses room file c cs f s answer k q e l =
    sym q ∙ rw (ne_eqb (step_at room file c s).fault 0 (λ z. let y : (step_at room file c s).fault ≡ 0 = z in absurd (omega arith)), read_on) (ap (λ x. refused x c.place) e)

read_goes : (room : Room) (file : List ℕ) (c : Placed) (cs : List Placed) (f : Refusal) (s : State) (answer : Answer) →
    read_on room file (c ∷ cs) f s ≡ answer → (step_at room file c s).fault ≡ 0 → read_on room file cs f (step_at room file c s).next ≡ answer
unfolding read_on
read_goes room file c cs f s answer q e = rw (eq-eqb (step_at room file c s).fault 0 e, read_on) at q

module _ (book : Book) (file : List ℕ) (room : Room) (answer : Answer) (w : Lent) (p : Progress) (n : Format) (at set rounded : ℕ) (s : State)
    (r : Running book file room answer w p n at set rounded s) where
  -- a fault of the bytes
  pub stops : {f : Refusal} → turn_of book n file at ≡ turn.Fault f → answer ≡ refused f.number f.place
  unfolding SoundTurn
  stops {f} e = read_stops room file f s answer (rw (walk_fault book n file at e) at r.leads) (fault_some (turn_of book n file at) e (turn_sound book n file at r.within))
    where
      fault_some : (t : Turn) → t ≡ turn.Fault f → SoundTurn file at t → eqb f.number 0 ≡ false
      fault_some t e h = subst (SoundTurn file at) e h

  -- M02
  module _ {c : Placed} {next : ℕ} (e : turn_of book n file at ≡ turn.Last c next) where
    last_says : Sound file c × (c.command ≡ cmd.End)
    unfolding SoundTurn
    last_says = subst (SoundTurn file at) e (turn_sound book n file at r.within)

    pub last_sound : Sound file c
    last_sound = last_says.0

    pub last_none : held_in c.command ≡ None
    unfolding held_in
    last_none = ap held_in last_says.1

    pub last_again : (again : Bool) → Again file c again s
    unfolding Again
    last_again again d q = let z : ◌≡◌ {A = Command} cmd.End (cmd.Attribute d) = sym last_says.1 ∙ q in let y : ◌≡◌ {A = ℕ} 0 1 = cc in absurd (omega arith)

    leads_last : read_on room file (c ∷ []) (tail_fault (tail_of file next)) s ≡ answer
    leads_last = rw (walk_last book n file at e) at r.leads

    same_state : (step_at room file c s).next ≡ s
    unfolding step_of
    same_state = ap (λ k. (step_of room (slice c.from c.end file) c.place k s).next) last_says.1

    end_fault_lem : (step_at room file c s).fault ≡ end_fault s.graphics s.level
    unfolding step_of
    end_fault_lem = ap (λ k. (step_of room (slice c.from c.end file) c.place k s).fault) last_says.1

    pub ends : (w' : Lent) (x : Result Progress Rule) → w'.file ≡ file → Follows (Knows w') (step_at room file c s) x → Ends book answer w' (settled x c.place (tail_fault (tail_of file next)) rounded)
    unfolding Follows settled Ends
    ends w' (Err rule) same q = read_refuses room file c [] (tail_fault (tail_of file next)) s answer (number_of_rule rule) leads_last q (above_none rule)
    ends w' (Ok p') same (q, k) = go (eqb (tail_fault (tail_of file next)).number 0) refl
      where
        goes : read_on room file [] (tail_fault (tail_of file next)) s ≡ answer
        goes = rw same_state at (read_goes room file c [] (tail_fault (tail_of file next)) s answer leads_last q)

        go : (t : Bool) → eqb (tail_fault (tail_of file next)).number 0 ≡ t → Ends book answer w' (elim t [ true ↦ Ok (record { progress = p'; rounded = rounded }) | false ↦ Err (tail_fault (tail_of file next)) ])
        go true z = record {
          state = s;
          is = read_accepts room file (tail_fault (tail_of file next)) s answer goes z;
          knows = rw same_state at k;
          kept = sym end_fault_lem ∙ q;
          unit = unit_low s.graphics r.unit;
          counted = counted_last book file n at rounded r.counted e last_says.1 ∙ ap (all_of book) (sym same);
        }
        go false z = read_stops room file (tail_fault (tail_of file next)) s answer goes z

  -- any other command
  module _ {c : Placed} {m : Format} {next : ℕ} (e : turn_of book n file at ≡ turn.More c m next) where
    more_says : Sound file c × (at + rounded_of c.command ≤ next)
    unfolding SoundTurn
    more_says = subst (SoundTurn file at) e (turn_sound book n file at r.within)

    pub more_sound : Sound file c
    more_sound = more_says.0

    counted_on_lem : Counted book file m next (rounded + rounded_of c.command)
    counted_on_lem = counted_more book file n at rounded r.counted r.within e more_says.1

    pub counted_fits : rounded + rounded_of c.command ≤ length file
    counted_fits = omega (arith, counted_on_lem.few, (more_onward book n file at r.within e).1)

    leads_more : read_on room file (c ∷ (walk book m file next).commands) (walk book m file next).fault s ≡ answer
    leads_more = rw (walk_more book n file at r.within e) at r.leads

    pub refuses : (w' : Lent) (rule : Rule) → Follows (Knows w') (step_at room file c s) (Err rule) → answer ≡ refused (number_of_rule rule) c.place
    unfolding Follows
    refuses w' rule q = read_refuses room file c (walk book m file next).commands (walk book m file next).fault s answer (number_of_rule rule) leads_more q (above_none rule)

    pub goes : {more : ℕ} (w' : Lent) (p' : Progress) → ((step_at room file c s).fault ≡ 0 → NamesAt book file next more (step_at room file c s).next.names) →
        Follows (Knows w') (step_at room file c s) (Ok p') → Running book file room answer w' p' m next more (rounded + rounded_of c.command) (step_at room file c s).next
    unfolding Follows
    goes w' p' named (q, k) = record {
      within = (more_onward book n file at r.within e).1;
      knows = k;
      unit = unit_after room (slice c.from c.end file) c.place c.command s r.unit;
      names = named q;
      counted = counted_on_lem;
      leads = read_goes room file c (walk book m file next).commands (walk book m file next).fault s answer leads_more q;
    }
