-- Where a refusal stands: each command begins inside the file, and what is at fault after the commands stands in it or at its end.
-- Assumes nothing.
use Prim.Native.Nat.{ℕ, zero, suc, ◌≤◌, ◌<◌}
use mathlib.Core.Path.{◌≡◌, refl, subst}
use mathlib.Core.Bool.{Bool, true, false, not}
use mathlib.Core.List.{List, [], ◌∷◌, ◌++◌}
use native.Mathlib.Omega.{arith}
use lib.Dec.{leb}
use lib.ListN.{length, get_or}
use lib.Seq.{slice}
use Rattle.base.specs.Breaks.{is_break}
use Rattle.text.proofs.First.{first_to}
use Rattle.text.specs.First.{skipped}
use Rattle.scan.specs.Permitted.{printable, fits}
use Rattle.scan.specs.Scan.{next_command}
use Rattle.scan.specs.Tail.{tail_of}
use Rattle.book.specs.declared.Book.{Book}
use Rattle.formats.specs.Format.{no_format}
use Rattle.formats.specs.declared.Format.{Format}
use Rattle.scan.specs.declared.Scan.{Scan}
use Rattle.scan.specs.declared.Scan.TheVariants as scan
use Rattle.scan.proofs.Within.{Within, next_within}
use Rattle.recognise.specs.Commands.{command_of}
use Rattle.sequence.specs.Leads.{lead_of}
use Rattle.sequence.specs.Turns.{led, turned, turn_of, tail_fault}
use Rattle.sequence.specs.Commands.{Sequence, commands_from, commands_of}
use Rattle.sequence.specs.declared.Lead.{Lead}
use Rattle.sequence.specs.declared.Lead.TheVariants as lead
use Rattle.sequence.specs.declared.Placed.{Placed}
use Rattle.sequence.specs.declared.Turn.{Turn}
use Rattle.sequence.specs.declared.Turn.TheVariants as turn
use Rattle.law_reading.specs.State.{Room}
use Rattle.law_kept.specs.Kept.{FirstBroken, by, behind}

-- each begins before the byte n
abbrev Inside : ℕ → List Placed → Type 0
Inside n [] = Unit
Inside n (c ∷ cs) = (c.place < n) × Inside n cs

inside_at : (n : ℕ) (before : List Placed) (c : Placed) (after : List Placed) → Inside n (before ++ c ∷ after) → c.place < n
inside_at n [] c after h = h.0
inside_at n (b ∷ before) c after h = inside_at n before c after h.1

-- a turn, in n bytes
abbrev Stands : ℕ → Turn → Type 0
Stands n (turn.Fault f) = f.place ≤ n
Stands n (turn.Last c next) = (c.place < n) × (next ≤ n)
Stands n (turn.More c m next) = (c.place < n) × (next ≤ n)

led_stands : (l : ℕ) (f : Format) (c : Placed) (way : Lead) (next : ℕ) → c.place < l → next ≤ l → Stands l (led f c way next)
unfolding led
led_stands l f c (lead.Broken number) next h k = omega arith
led_stands l f c lead.Last next h k = (h, k)
led_stands l f c (lead.Format g) next h k = (h, k)
led_stands l f c lead.Other next h k = (h, k)

turned_stands : (book : Book) (f : Format) (file : List ℕ) (at : ℕ) (s : Scan) → Within (length file) at s → Stands (length file) (turned book f file s)
unfolding turned
turned_stands book f file at (scan.Command kind place from end next) (h, k, l, e, m) =
    led_stands (length file) f _ (lead_of (command_of book f kind (slice from end file))) next (omega arith) m
turned_stands book f file at (scan.BadByte place) w = w.1
turned_stands book f file at (scan.Ended place) w = omega arith

turn_stands : (book : Book) (f : Format) (file : List ℕ) (at : ℕ) → at ≤ length file → Stands (length file) (turn_of book f file at)
unfolding turn_of
turn_stands book f file at h = turned_stands book f file at (next_command book file at) (next_within book file at h)

tail_stands : (file : List ℕ) (at : ℕ) → at ≤ length file → (tail_fault (tail_of file at)).place ≤ length file
unfolding tail_of tail_fault
tail_stands file at h = go (leb (length file) (skipped file at)) refl (printable (get_or file (skipped file at) 0)) refl
  where
    here : skipped file at ≤ length file
    here = first_to (λ b. not (is_break b)) file at h

    go : (t : Bool) → leb (length file) (skipped file at) ≡ t → (u : Bool) → printable (get_or file (skipped file at) 0) ≡ u →
        (tail_fault (tail_of file at)).place ≤ length file
    go true e u q = rw e (omega arith)
    go false e true q = rw (e, q) here
    go false e false q = rw (e, q) here

abbrev AllStand : ℕ → Sequence → Type 0
AllStand n l = Inside n l.commands × l.fault.place ≤ n

from_stand : (book : Book) (file : List ℕ) (k : ℕ) (f : Format) (at : ℕ) → at ≤ length file → AllStand (length file) (commands_from book k f file at)
unfolding commands_from
from_stand book file zero f at h = (tt, omega arith)
from_stand book file (suc k) f at h = go (λ g next. from_stand book file k g next) (turn_of book f file at) refl (turn_stands book f file at h)
  where
    go : ((g : Format) (next : ℕ) → next ≤ length file → AllStand (length file) (commands_from book k g file next)) →
        (t : Turn) → turn_of book f file at ≡ t → Stands (length file) t → AllStand (length file) (commands_from book (suc k) f file at)
    go ih (turn.Fault r) e o = rw (e, commands_from) (tt, o)
    go ih (turn.Last c next) e (o, l) = rw (e, commands_from) ((o, tt), tail_stands file next l)
    go ih (turn.More c g next) e (o, l) = let r = ih g next l in rw (e, commands_from) ((o, r.0), r.1)

commands_stand : (book : Book) (file : List ℕ) → AllStand (length file) (commands_of book file)
unfolding commands_of
commands_stand book file = go (fits file) refl
  where
    go : (t : Bool) → fits file ≡ t → AllStand (length file) (commands_of book file)
    go true e = rw e (from_stand book file (suc (length file)) no_format 0 (omega arith))
    go false e = rw e (tt, omega arith)

-- the first rule broken is broken at a byte of the file, or at its end
pub broken_inside : {book : Book} {room : Room} {file : List ℕ} {number place : ℕ} → FirstBroken book room file number place → place ≤ length file
broken_inside {book = book} {file = file} (by k) =
    let h : k.command.place < length file =
    inside_at (length file) k.before k.command k.after (subst (Inside (length file)) k.order (commands_stand book file).0) in
    let s = k.stands in
    omega arith
broken_inside {book = book} {file = file} (behind k) = let h = (commands_stand book file).1 in let s = k.stands in omega arith
