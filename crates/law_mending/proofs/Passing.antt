-- A command that breaks no rule passes: an FS or MO is the first of its kind, and what is given stays given; and what may stand after M02.
-- Assumes nothing.
use Prim.Native.Nat.{ℕ, ◌+◌, ◌≤◌}
use mathlib.Core.Path.{◌≡◌, refl}
use mathlib.Core.Bool.{Bool, true, false, not, cond}
use mathlib.Core.List.{List, [], ◌∷◌}
use native.Mathlib.Omega.{arith}
use lib.Dec.{leb}
use lib.ListN.{length, drop, get_or, length-drop}
use lib.Seq.{slice}
use borrow.Author.Tests.{leb-true}
use Rattle.base.specs.Breaks.{is_break}
use Rattle.text.specs.First.{first_in, skipped}
use Rattle.book.specs.declared.Book.{Book}
use Rattle.formats.specs.declared.Format.{Format}
use Rattle.scan.specs.Permitted.{printable}
use Rattle.scan.specs.Tail.{tail_of}
use Rattle.scan.specs.declared.Kind.{Kind}
use Rattle.scan.specs.declared.Tail.TheVariants as tail
use Rattle.command.specs.Flaws.{flaw_number}
use Rattle.command.specs.declared.Flaw.{Flaw}
use Rattle.command.specs.declared.Flaw.TheVariants as flaw
use Rattle.command.specs.declared.Command.{Command}
use Rattle.recognise.specs.Commands.{command_of}
use Rattle.law_bounds.specs.Bounded.{SettingBounded, Bounded}
use Rattle.law_bounds.proofs.Bounds.{bounded}
use Rattle.sequence.specs.Turns.{tail_fault}
use Rattle.law_reading.specs.State.{Room, State}
use Rattle.law_reading.specs.Steps.{step_of}
use Rattle.mending.specs.Changes.{follows}
use Rattle.law_mending.proofs.Header.{has_format, has_unit, First, format_stays, unit_stays, format_first, millimetres_first, inches_first}
use Rattle.law_mending.proofs.Says.{Formats, format, flawed, Units, millimetres, inches, unflawed}
use Rattle.law_mending.proofs.Scanned.{Scanned}
use Rattle.law_mending.proofs.Opens.{opens_format, opens_unit}
use Rattle.law_mending.proofs.Tidy.{Passes}

-- what cannot be read has a number
flaw_some : (x : Flaw) → flaw_number x ≡ 0 → ⊥
unfolding flaw_number
flaw_some flaw.NotForm e = omega arith
flaw_some flaw.Unread e = omega arith
flaw_some flaw.TooLong e = omega arith

module _ (room : Room) (t : List ℕ) (p : ℕ) (s : State) where
  first_format : (c : Command) → Formats c → Bounded t c → (step_of room t p c s).fault ≡ 0 → First has_format s (step_of room t p c s).next
  unfolding Bounded SettingBounded step_of
  first_format c (format f) b e = format_first room t p s f b e
  first_format c (flawed x) b e = absurd (flaw_some x e)

  first_unit : (c : Command) → Units c → (step_of room t p c s).fault ≡ 0 → First has_unit s (step_of room t p c s).next
  unfolding step_of
  first_unit c millimetres e = millimetres_first room t p s e
  first_unit c inches e = inches_first room t p s e
  first_unit c (unflawed x) e = absurd (flaw_some x e)

pub passes : {file : List ℕ} {at : ℕ} {kind : Kind} {start from end next : ℕ} → Scanned file at kind start from end next →
    (book : Book) (f : Format) (room : Room) (s : State) →
    (step_of room (slice from end file) start (command_of book f kind (slice from end file)) s).fault ≡ 0 →
    Passes (slice start next file) s (step_of room (slice from end file) start (command_of book f kind (slice from end file)) s).next
passes {file} {kind = kind} {start = start} {from = from} {end = end} k book f room s e =
    let t : List ℕ = slice from end file in
    let c : Command = command_of book f kind (slice from end file) in
    let b : Bounded t c = bounded book f kind (slice from end file) in
    record {
      format = record { stays = format_stays room t start c s b; first = λ o. first_format room t start s c (opens_format k book f o) b e };
      unit = record { stays = unit_stays room t start c s b; first = λ o. first_unit room t start s c (opens_unit k book f o) e };
    }

-- line ends alone are followed by nothing
breaks_alone : (s : List ℕ) (at : ℕ) → at + length s ≤ first_in (λ b. not (is_break b)) s at → follows s ≡ false
unfolding follows first_in
breaks_alone [] at h = refl
breaks_alone (b ∷ s) at h = go (breaks_alone s (at + 1)) (is_break b) refl h
  where
    go : (at + 1 + length s ≤ first_in (λ b. not (is_break b)) s (at + 1) → follows s ≡ false) → (t : Bool) → is_break b ≡ t →
        at + length (b ∷ s) ≤ first_in (λ b. not (is_break b)) (b ∷ s) at → follows (b ∷ s) ≡ false
    go ih true e h = rw (e, follows) (ih (omega (arith, rw (e, first_in) at h)))
    go ih false e h = absurd (omega (arith, rw (e, first_in) at h))

pub clean_behind : (file : List ℕ) (at : ℕ) → at ≤ length file → (tail_fault (tail_of file at)).number ≡ 0 → follows (drop at file) ≡ false
unfolding tail_of tail_fault
clean_behind file at h e = go (leb (length file) (skipped file at)) refl (printable (get_or file (skipped file at) 0)) e
  where
    go : (t : Bool) → leb (length file) (skipped file at) ≡ t → (u : Bool) →
        (tail_fault (cond t tail.Clean (cond u (tail.More (skipped file at)) (tail.Unprintable (skipped file at))))).number ≡ 0 → follows (drop at file) ≡ false
    go true q u e = breaks_alone (drop at file) at (omega (arith, leb-true (length file) (skipped file at) q, length-drop at file))
    go false q true e = absurd (omega arith)
    go false q false e = absurd (omega arith)
