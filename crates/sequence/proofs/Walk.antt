-- The walk over a file's commands: each turn leads past where it began, and what is listed from there on follows.
-- Assumes nothing.
use Prim.Native.Nat.{ℕ, zero, suc, ◌+◌, ◌<◌, ◌≤◌}
use mathlib.Core.Path.{◌≡◌, refl}
use mathlib.Core.List.{List}
use native.Mathlib.Omega.{arith}
use lib.ListN.{length}
use lib.Seq.{slice}
use Rattle.scan.specs.Scan.{next_command}
use Rattle.book.specs.declared.Book.{Book}
use Rattle.formats.specs.declared.Format.{Format}
use Rattle.scan.specs.Tail.{tail_of}
use Rattle.scan.specs.declared.Scan.{Scan}
use Rattle.scan.specs.declared.Scan.TheVariants as scan
use Rattle.scan.proofs.Within.{Within, next_within}
use Rattle.recognise.specs.Commands.{command_of}
use Rattle.sequence.specs.Leads.{lead_of}
use Rattle.sequence.specs.Turns.{led, turned, turn_of, tail_fault}
use Rattle.sequence.specs.Commands.{Sequence, stopped, followed, commands_from}
use Rattle.sequence.specs.declared.Lead.{Lead}
use Rattle.sequence.specs.declared.Lead.TheVariants as lead
use Rattle.sequence.specs.declared.Placed.{Placed}
use Rattle.sequence.specs.declared.Refusal.{Refusal}
use Rattle.sequence.specs.declared.Turn.{Turn}
use Rattle.sequence.specs.declared.Turn.TheVariants.{Fault, Last, More}

-- a turn from `at` on leads past it, in n bytes
abbrev pub Onward : ℕ → ℕ → Turn → Type 0
Onward n at (Fault r) = Unit
Onward n at (Last c next) = (at < next) × (next ≤ n)
Onward n at (More c g next) = (at < next) × (next ≤ n)

led_onward : (n at : ℕ) (f : Format) (c : Placed) (way : Lead) (next : ℕ) → at < next → next ≤ n → Onward n at (led f c way next)
unfolding led
led_onward n at f c (lead.Broken number) next h k = tt
led_onward n at f c lead.Last next h k = (h, k)
led_onward n at f c (lead.Format g) next h k = (h, k)
led_onward n at f c lead.Other next h k = (h, k)

turned_onward : (book : Book) (f : Format) (file : List ℕ) (at : ℕ) (s : Scan) → Within (length file) at s → Onward (length file) at (turned book f file s)
unfolding turned
turned_onward book f file at (scan.Command kind place from end next) (h, k, l, e, m) =
    led_onward (length file) at f _ (lead_of (command_of book f kind (slice from end file))) next (omega arith) m
turned_onward book f file at (scan.BadByte place) w = tt
turned_onward book f file at (scan.Ended place) w = tt

turn_onward : (book : Book) (f : Format) (file : List ℕ) (at : ℕ) → at ≤ length file → Onward (length file) at (turn_of book f file at)
unfolding turn_of
turn_onward book f file at h = turned_onward book f file at (next_command book file at) (next_within book file at h)

-- the number of turns does not matter where it is enough for the bytes left
enough : (book : Book) (file : List ℕ) (k j : ℕ) (f : Format) (at : ℕ) → at ≤ length file → length file < k + at → length file < j + at → commands_from book k f file at ≡ commands_from book j f file at
unfolding commands_from
enough book file zero j f at h p q = absurd (omega arith)
enough book file (suc k) zero f at h p q = absurd (omega arith)
enough book file (suc k) (suc j) f at h p q = go (λ g next. enough book file k j g next) (turn_of book f file at) refl (turn_onward book f file at h)
  where
    go : ((g : Format) (next : ℕ) → next ≤ length file → length file < k + next → length file < j + next → commands_from book k g file next ≡ commands_from book j g file next) →
        (t : Turn) → turn_of book f file at ≡ t → Onward (length file) at t → commands_from book (suc k) f file at ≡ commands_from book (suc j) f file at
    go ih (Fault r) e o = rw (e, commands_from)
    go ih (Last c next) e o = rw (e, commands_from)
    go ih (More c g next) e (l, u) = rw (e, commands_from, ih g next u (omega arith) (omega arith))

-- what is listed from `at` on
abbrev pub walk : Book → Format → List ℕ → ℕ → Sequence
walk book f file at = commands_from book (suc (length file)) f file at

module _ (book : Book) (f : Format) (file : List ℕ) (at : ℕ) where
  pub walk_fault : {r : Refusal} → turn_of book f file at ≡ Fault r → walk book f file at ≡ stopped r
  unfolding commands_from
  walk_fault e = rw (e, commands_from)

  pub walk_last : {c : Placed} {next : ℕ} → turn_of book f file at ≡ Last c next → walk book f file at ≡ followed c (stopped (tail_fault (tail_of file next)))
  unfolding commands_from
  walk_last e = rw (e, commands_from)

  module _ {c : Placed} {g : Format} {next : ℕ} (h : at ≤ length file) (e : turn_of book f file at ≡ More c g next) where
    pub more_onward : (at < next) × (next ≤ length file)
    more_onward = rw e at (turn_onward book f file at h)

    pub walk_more : walk book f file at ≡ followed c (walk book g file next)
    unfolding commands_from
    walk_more =
        let o = more_onward in
        rw (e, commands_from, enough book file (length file) (suc (length file)) g next o.1 (omega (arith, o.0)) (omega arith))
