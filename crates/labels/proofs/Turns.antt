-- The name of a TF that stands next lies in the file.
-- Assumes nothing.
use Rattle.std.specs.Prelude.{Option, Some}
use Prim.Native.Nat.{ℕ, ◌+◌, ◌-◌, ◌≤◌}
use mathlib.Core.Path.{◌≡◌, refl}
use mathlib.Core.List.{List}
use native.Mathlib.Omega.{arith}
use lib.ListN.{length}
use lib.Seq.{slice, length-slice}
use Rattle.book.specs.declared.Book.{Book}
use Rattle.formats.specs.declared.Format.{Format}
use Rattle.scan.specs.Scan.{next_command}
use Rattle.scan.specs.declared.Scan.{Scan}
use Rattle.scan.specs.declared.Scan.TheVariants as scan
use Rattle.scan.proofs.Within.{Within, next_within}
use Rattle.command.specs.declared.Span.{Span}
use Rattle.recognise.specs.Commands.{command_of}
use Rattle.law_bounds.proofs.Bounds.{bounded}
use Rattle.sequence.specs.Leads.{lead_of}
use Rattle.sequence.specs.Turns.{led, turned, turn_of}
use Rattle.sequence.specs.declared.Lead.{Lead}
use Rattle.sequence.specs.declared.Lead.TheVariants as lead
use Rattle.sequence.specs.declared.Placed.{Placed}
use Rattle.sequence.specs.declared.Turn.{Turn}
use Rattle.sequence.specs.declared.Turn.TheVariants.{Fault, Last, More}
use Rattle.names.specs.Sets.{sets_of}
use Rattle.names.proofs.Inside.{Inside, sets_inside}
use Rattle.labels.specs.Pass.{Lies, NameLies}

-- the command of a turn
abbrev pub TurnLies : ℕ → Turn → Type 0
TurnLies size (Fault f) = Unit
TurnLies size (Last c next) = NameLies size c
TurnLies size (More c m next) = NameLies size c

led_lies : (size : ℕ) (n : Format) (c : Placed) (way : Lead) (next : ℕ) → NameLies size c → TurnLies size (led n c way next)
unfolding led
led_lies size n c (lead.Broken number) next h = tt
led_lies size n c lead.Last next h = h
led_lies size n c (lead.Format m) next h = h
led_lies size n c lead.Other next h = h

-- a name inside a text lies in the file that the text is of
inside_lies : (size from end : ℕ) (x : Option Span) (n : Span) → x ≡ Some n → from ≤ end → end ≤ size → Inside (end - from) x → Lies size from n
inside_lies size from end x n e h k i = let j = rw e at i in record { ordered = j.0; inside = omega (arith, j.1) }

turned_lies : (book : Book) (n : Format) (file : List ℕ) (at : ℕ) (s : Scan) → Within (length file) at s → TurnLies (length file) (turned book n file s)
unfolding turned
turned_lies book n file at (scan.Command kind place from end next) (h, k, l, e, m) =
    let p : length (slice from end file) ≡ end - from = length-slice from end file (omega arith) in
    led_lies (length file) n _ (lead_of (command_of book n kind (slice from end file))) next
    (record {
      lies = λ x q. inside_lies (length file) from end _ x q l (omega arith)
          (rw p at (sets_inside (slice from end file) (command_of book n kind (slice from end file)) (bounded book n kind (slice from end file))));
    })
turned_lies book n file at (scan.BadByte place) w = tt
turned_lies book n file at (scan.Ended place) w = tt

turn_lies : (book : Book) (n : Format) (file : List ℕ) (at : ℕ) → at ≤ length file → TurnLies (length file) (turn_of book n file at)
unfolding turn_of
turn_lies book n file at h = turned_lies book n file at (next_command book file at) (next_within book file at h)

module _ (book : Book) (n : Format) (file : List ℕ) (at : ℕ) (h : at ≤ length file) where
  pub last_lies : {c : Placed} {next : ℕ} → turn_of book n file at ≡ Last c next → NameLies (length file) c
  last_lies e = rw e at (turn_lies book n file at h)

  pub more_lies : {c : Placed} {m : Format} {next : ℕ} → turn_of book n file at ≡ More c m next → NameLies (length file) c
  more_lies e = rw e at (turn_lies book n file at h)
