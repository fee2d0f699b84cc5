-- Where a command begins: from the place on that it was looked for from, and before the place that it leads on to.
-- Assumes nothing.
use Prim.Native.Nat.{ℕ, ◌<◌, ◌≤◌}
use mathlib.Core.Path.{◌≡◌}
use mathlib.Core.List.{List}
use native.Mathlib.Omega.{arith}
use lib.ListN.{length}
use lib.Seq.{slice}
use Rattle.book.specs.declared.Book.{Book}
use Rattle.formats.specs.declared.Format.{Format}
use Rattle.scan.specs.Scan.{next_command}
use Rattle.scan.specs.declared.Scan.{Scan}
use Rattle.scan.specs.declared.Scan.TheVariants as scan
use Rattle.scan.proofs.Within.{Within, next_within}
use Rattle.recognise.specs.Commands.{command_of}
use Rattle.sequence.specs.Leads.{lead_of}
use Rattle.sequence.specs.Turns.{led, turned, turn_of}
use Rattle.sequence.specs.declared.Lead.{Lead}
use Rattle.sequence.specs.declared.Lead.TheVariants as lead
use Rattle.sequence.specs.declared.Placed.{Placed}
use Rattle.sequence.specs.declared.Turn.{Turn}
use Rattle.sequence.specs.declared.Turn.TheVariants.{Fault, Last, More}

abbrev Begins : ℕ → Turn → Type 0
Begins at (Fault f) = Unit
Begins at (Last c next) = (at ≤ c.place) × (c.place < next)
Begins at (More c m next) = (at ≤ c.place) × (c.place < next)

led_begins : (at : ℕ) (n : Format) (c : Placed) (way : Lead) (next : ℕ) → at ≤ c.place → c.place < next → Begins at (led n c way next)
unfolding led
led_begins at n c (lead.Broken number) next h k = tt
led_begins at n c lead.Last next h k = (h, k)
led_begins at n c (lead.Format m) next h k = (h, k)
led_begins at n c lead.Other next h k = (h, k)

turned_begins : (book : Book) (n : Format) (file : List ℕ) (at : ℕ) (s : Scan) → Within (length file) at s → Begins at (turned book n file s)
unfolding turned
turned_begins book n file at (scan.Command kind place from end next) (h, k, l, e, m) =
    led_begins at n (record { place = place; from = from; end = end; command = command_of book n kind (slice from end file) }) (lead_of (command_of book n kind (slice from end file))) next h (omega arith)
turned_begins book n file at (scan.BadByte place) w = tt
turned_begins book n file at (scan.Ended place) w = tt

turn_begins : (book : Book) (n : Format) (file : List ℕ) (at : ℕ) → at ≤ length file → Begins at (turn_of book n file at)
unfolding turn_of
turn_begins book n file at h = turned_begins book n file at (next_command book file at) (next_within book file at h)

module _ (book : Book) (n : Format) (file : List ℕ) (at : ℕ) (h : at ≤ length file) where
  pub last_begins : {c : Placed} {next : ℕ} → turn_of book n file at ≡ Last c next → (at ≤ c.place) × (c.place < next)
  last_begins e = rw e at (turn_begins book n file at h)

  pub more_begins : {c : Placed} {m : Format} {next : ℕ} → turn_of book n file at ≡ More c m next → (at ≤ c.place) × (c.place < next)
  more_begins e = rw e at (turn_begins book n file at h)
