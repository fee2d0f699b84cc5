-- The loop over the commands: what holds at each turn, and where each way out of it leads.
-- Assumes nothing.
use Rattle.faults.specs.Rule.{number_of_rule}
use Rattle.faults.specs.declared.Rule.{Rule}
use Rattle.std.specs.Prelude.{None, Err, Ok, Result, ℕ, Option, Some}
use Rattle.formats.specs.Format.{no_format}
use Rattle.formats.specs.declared.Format.{Format}
use Prim.Native.Nat.{ℕ, ◌+◌, ◌<◌, ◌≤◌}
use mathlib.Core.Path.{◌≡◌, refl, sym, ap, ◌∙◌, subst}
use mathlib.Core.Bool.{Bool, true, false, false≢true}
use mathlib.Core.List.{List}
use native.Mathlib.Omega.{arith}
use lib.IntN.{ℤ}
use lib.ListN.{length}
use lib.Seq.{slice}
use Rattle.book.specs.declared.Book.{Book}
use Rattle.scan.specs.Tail.{tail_of}
use Rattle.command.specs.Rounded.{rounded_of}
use Rattle.command.specs.declared.Command.{Command}
use Rattle.command.specs.declared.Command.TheVariants as command
use Rattle.names.specs.Sets.{sets_of}
use Rattle.sequence.specs.Turns.{turn_of, tail_fault}
use Rattle.sequence.specs.declared.Placed.{Placed}
use Rattle.sequence.specs.declared.Refusal.{Refusal}
use Rattle.sequence.specs.declared.Turn.TheVariants as turn
use Rattle.graphics.specs.Graphics as graphics
use Rattle.law_reading.specs.State.{Room, State, begun}
use Rattle.law_reading.specs.Reading.{refused, step_at}
use Rattle.progress.specs.Lent.{Lent, lent_of, room_of, with_entries}
use Rattle.progress.specs.Strokes.{with_stroke}
use Rattle.progress.specs.declared.Stroke.{Stroke}
use Rattle.progress.specs.declared.Struck.{Struck}
use Rattle.progress.specs.declared.Struck.TheVariants as struck
use Rattle.progress.specs.declared.Struck.TheVariants.{Other}
use Rattle.progress.specs.Knows.{Knows, Known, Follows}
use Rattle.progress.specs.declared.Progress.{Progress}
use Rattle.steps.specs.Steps.{Sound, Again, Reads, Operates}
use Rattle.steps.specs.Coded.{held_in, code_fault, behind_code}
use Rattle.steps.proofs.Arms.{known_of, same_entries}
use Rattle.steps.proofs.Coded.{known_behind}
use Rattle.steps.proofs.Strokes.{operated_none, operated_some, behind_none, stepped_by, strikes}
use Rattle.running.specs.Ends.{start, Empty, AsLong, answer_of, settled, Ends, Looked}
use Rattle.running.specs.Judged.{judged_as, judged_of}
use Rattle.running.proofs.Begun.{knows_start}
use Rattle.running.proofs.After.{names_after}
use Rattle.running.proofs.Counting.{counted_start}
use Rattle.running.proofs.Naming.{NamesAt, names_start, names_few, asks, told_again, names_on}
use Rattle.running.proofs.Running.{Running, stops, last_sound, last_none, last_again, ends, more_sound, counted_fits, refuses, goes}

pub record Runs (book : Book) (file : List ℕ) (w₀ : Lent) (w : Lent) (p : Progress) (n : Format) (at set rounded : ℕ) : Type 0 where
  pub state : State
  pub file_is : w.file ≡ file
  pub long : AsLong w₀ w
  pub running : Running book file (room_of w₀) (answer_of book w₀) w p n at set rounded state

pub same_long : (w : Lent) → AsLong w w
same_long w = record { entries_long = refl; apertures_long = refl; macros_long = refl; numbers_long = refl }

pub longs : (w₀ w w' : Lent) → AsLong w₀ w → AsLong w w' → AsLong w₀ w'
longs w₀ w w' a b = record {
  entries_long = b.entries_long ∙ a.entries_long;
  apertures_long = b.apertures_long ∙ a.apertures_long;
  macros_long = b.macros_long ∙ a.macros_long;
  numbers_long = b.numbers_long ∙ a.numbers_long;
}

pub same_room : (w₀ w : Lent) → AsLong w₀ w → room_of w ≡ room_of w₀
unfolding room_of
same_room w₀ w l = rw (l.entries_long, l.apertures_long, l.macros_long, l.numbers_long)

pub runs_start : (book : Book) (w : Lent) → Empty w → Runs book w.file w w (start book) no_format 0 0 0
unfolding begun graphics.start no_format answer_of
runs_start book w z = record {
  state = begun book;
  file_is = refl;
  long = same_long w;
  running = record {
    within = omega arith;
    knows = knows_start book w z;
    unit = (omega arith, omega arith);
    names = names_start book w.file;
    counted = counted_start book w.file;
    leads = refl;
  };
}

module _ (book : Book) (file : List ℕ) (w₀ w : Lent) (p : Progress) (n : Format) (at set rounded : ℕ) (r : Runs book file w₀ w p n at set rounded) where
  pub known : Known (λ x. x ≡ w) p
  known = record { lent = w; state = r.state; is = refl; knows = r.running.knows }

  pub runs_stops : {f : Refusal} → turn_of book n file at ≡ turn.Fault f → answer_of book w₀ ≡ refused f.number f.place
  runs_stops e = stops book file (room_of w₀) (answer_of book w₀) w p n at set rounded r.state r.running e

  -- a step that is right for what is known
  follows : (w' : Lent) (c : Placed) (again : Bool) (x : Result Progress Rule) → Reads w w' p c again x → Again file c again r.state → Follows (Knows w') (step_at (room_of w₀) file c r.state) x
  follows w' c again x step told =
      subst (λ (f : List ℕ). Follows (Knows w') (step_at (room_of w₀) f c r.state) x) r.file_is
      (subst (λ (m : Room). Follows (Knows w') (step_at m w.file c r.state) x) (same_room w₀ w r.long)
      (step r.state r.running.knows (subst (λ (f : List ℕ). Again f c again r.state) (sym r.file_is) told)))

  module _ {c : Placed} {next : ℕ} (e : turn_of book n file at ≡ turn.Last c next) where
    pub sound_last : Sound file c
    sound_last = last_sound book file (room_of w₀) (answer_of book w₀) w p n at set rounded r.state r.running e

    pub held_last : held_in c.command ≡ None
    held_last = last_none book file (room_of w₀) (answer_of book w₀) w p n at set rounded r.state r.running e

    pub runs_ends : (w' : Lent) (again : Bool) (x : Result Progress Rule) → w'.file ≡ file → Reads w w' p c again x → Ends book (answer_of book w₀) w' (settled x c.place (tail_fault (tail_of file next)) rounded)
    runs_ends w' again x same step =
        ends book file (room_of w₀) (answer_of book w₀) w p n at set rounded r.state r.running e w' x same
        (follows w' c again x step (last_again book file (room_of w₀) (answer_of book w₀) w p n at set rounded r.state r.running e again))

  module _ {c : Placed} {m : Format} {next : ℕ} (e : turn_of book n file at ≡ turn.More c m next) where
    pub sound_more : Sound file c
    sound_more = more_sound book file (room_of w₀) (answer_of book w₀) w p n at set rounded r.state r.running e

    pub runs_counts : rounded + rounded_of c.command ≤ length file
    runs_counts = counted_fits book file (room_of w₀) (answer_of book w₀) w p n at set rounded r.state r.running e

    pub runs_few : set < length file
    runs_few = names_few book n file at set r.state.names r.running.within r.running.names e

    module _ (look : Option ℕ) (l : Looked book file look) where
      pub runs_asks : judged_of book file c set look ≡ None → look ≡ None
      runs_asks j = asks book n file at set r.state.names r.running.within r.running.names e look l j

      module _ {again : Bool} {more : ℕ} (j : judged_of book file c set look ≡ Some (record { again = again; set = more })) (w' : Lent) (x : Result Progress Rule) (step : Reads w w' p c again x) where
        more_follows : Follows (Knows w') (step_at (room_of w₀) file c r.state) x
        more_follows = follows w' c again x step (told_again book n file at set r.state.names r.running.within r.running.names e look l j r.state refl)

        named : (step_at (room_of w₀) file c r.state).fault ≡ 0 → NamesAt book file next more (step_at (room_of w₀) file c r.state).next.names
        named q =
            names_on book n file at set r.state.names r.running.within r.running.names e look l j _
            (names_after (room_of w₀) (slice c.from c.end file) c.place c.command r.state q)

        pub runs_refuses : {rule : Rule} → x ≡ Err rule → answer_of book w₀ ≡ refused (number_of_rule rule) c.place
        runs_refuses {rule} q =
            refuses book file (room_of w₀) (answer_of book w₀) w p n at set rounded r.state r.running e w' rule (subst (Follows (Knows w') (step_at (room_of w₀) file c r.state)) q more_follows)

        pub runs_goes : {p' : Progress} → w'.file ≡ file → AsLong w w' → x ≡ Ok p' → Runs book file w₀ w' p' m next more (rounded + rounded_of c.command)
        runs_goes {p'} same k q = record {
          state = (step_at (room_of w₀) file c r.state).next;
          file_is = same;
          long = longs w₀ w w' r.long k;
          running = goes book file (room_of w₀) (answer_of book w₀) w p n at set rounded r.state r.running e w' p' named
              (subst (Follows (Knows w') (step_at (room_of w₀) file c r.state)) q more_follows);
        }

-- an operation sets no name, and has no decimal that is rounded
operation_plain : (c : Command) → (held_in c ≡ None → ⊥) → (sets_of c ≡ None) × (rounded_of c ≡ 0)
unfolding held_in sets_of rounded_of
operation_plain (command.Operate o) some = (refl, refl)
operation_plain (command.Coded code o) some = (refl, refl)
operation_plain (command.Broken flaw) some = absurd (some refl)
operation_plain command.Note some = absurd (some refl)
operation_plain command.End some = absurd (some refl)
operation_plain (command.Set s) some = absurd (some refl)
operation_plain (command.Select n) some = absurd (some refl)
operation_plain (command.Define d) some = absurd (some refl)
operation_plain (command.Contain b) some = absurd (some refl)
operation_plain (command.Attribute d) some = absurd (some refl)

is_other : Struck → Bool
is_other (struck.Next s) = false
is_other (struck.Fault rule) = false
is_other Other = true

no_stroke : {s : Stroke} → struck.Next s ≡ Other → ⊥
unfolding is_other
no_stroke q = false≢true (ap is_other q)

no_fault : {rule : Rule} → struck.Fault rule ≡ Other → ⊥
unfolding is_other
no_fault q = false≢true (ap is_other q)

-- a turn that is an operation, or none
module _ (book : Book) (file : List ℕ) (w₀ w : Lent) (p : Progress) (n : Format) (at set rounded : ℕ) (r : Runs book file w₀ w p n at set rounded)
    {c : Placed} {m : Format} {next : ℕ} (e : turn_of book n file at ≡ turn.More c m next) where
  pub known_entries : {q : Progress} → q ≡ behind_code c.command p → Known (λ x. x.entries ≡ w.entries) q
  known_entries q-is =
      rw q-is
      (known_behind c.command (λ x. x.entries ≡ w.entries) p
      (known_of (λ x. x ≡ w) (λ x. x.entries ≡ w.entries) p (λ x q. ap (λ (l : Lent). l.entries) q) (known book file w₀ w p n at set rounded r)))

  module _ {fault place : ℕ} (e' : List ℕ) {q : Progress} {hit : Struck} (fault_is : fault ≡ code_fault p.graphics c.command) (place_is : place ≡ c.place)
      (q-is : q ≡ behind_code c.command p) (op : Operates fault place (held_in c.command) w.entries e' q hit) where
    module _ (some : hit ≡ Other → ⊥) where
      plain_one : (sets_of c.command ≡ None) × (rounded_of c.command ≡ 0)
      plain_one = operation_plain c.command (operated_some _ _ (held_in c.command) _ e' _ hit op some)

      none_named : judged_of book file c set None ≡ Some (record { again = false; set = set })
      unfolding judged_of judged_as
      none_named = rw plain_one.0 refl

      reads : Reads w (with_entries e' w) p c false (stepped_by q hit)
      reads s k told =
          rw q-is
          (strikes w e' (slice c.from c.end w.file) c.place p s k hit some c.command (rw (fault_is, place_is, q-is) at op))

    pub stroke_refuses : {rule : Rule} → hit ≡ struck.Fault rule → answer_of book w₀ ≡ refused (number_of_rule rule) c.place
    unfolding stepped_by Looked
    stroke_refuses is =
        let some : hit ≡ Other → ⊥ = λ z. no_fault (sym is ∙ z) in
        runs_refuses book file w₀ w p n at set rounded r e None tt (none_named some) (with_entries e' w) _ (reads some) (ap (stepped_by q) is)

    pub stroke_goes : {s : Stroke} → hit ≡ struck.Next s → length e' ≡ length w.entries → Runs book file w₀ (with_entries e' w) (with_stroke s q) m next set rounded
    unfolding stepped_by with_entries Looked
    stroke_goes is long =
        let some : hit ≡ Other → ⊥ = λ z. no_stroke (sym is ∙ z) in
        let none = (plain_one some).1 in
        let same : rounded + rounded_of c.command ≡ rounded = omega (arith, none) in
        rw same at
        (runs_goes book file w₀ w p n at set rounded r e None tt (none_named some) (with_entries e' w) _ (reads some) r.file_is
        (record { entries_long = long; apertures_long = refl; macros_long = refl; numbers_long = refl }) (ap (stepped_by q) is))

    -- no operation: nothing has changed
    pub stroke_none : hit ≡ Other → (held_in c.command ≡ None) × Runs book file w₀ (with_entries e' w) q n at set rounded
    stroke_none is =
        let none = operated_none _ _ (held_in c.command) _ e' _ (known_entries q-is) (rw is at op) in
        (none.0, rw (q-is, behind_none c.command p none.0, none.1, sym (same_entries w refl)) r)

pub longer : (file e a m e' a' m' : List ℕ) (n n' : List ℤ) → length e' ≡ length e → length a' ≡ length a → length m' ≡ length m → length n' ≡ length n →
    AsLong (lent_of file e a m n) (lent_of file e' a' m' n')
unfolding lent_of
longer file e a m e' a' m' n n' p q r s = record { entries_long = p; apertures_long = q; macros_long = r; numbers_long = s }
