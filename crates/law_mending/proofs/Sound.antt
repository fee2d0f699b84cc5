-- A file that keeps the rules is sound: by induction over its commands, each of which is the next complete command by extent.
-- Assumes nothing.
use Prim.Native.Nat.{ℕ, zero, suc, ◌+◌}
use mathlib.Core.Path.{◌≡◌, refl, sym, ap, ◌∙◌, subst}
use mathlib.Core.Bool.{Bool, true, false}
use mathlib.Core.List.{List, [], ◌∷◌}
use native.Mathlib.Omega.{arith}
use lib.ListN.{length, drop}
use lib.Seq.{slice}
use Rattle.book.specs.declared.Book.{Book}
use Rattle.formats.specs.Format.{no_format}
use Rattle.formats.specs.declared.Format.{Format}
use Rattle.scan.specs.Permitted.{fits}
use Rattle.scan.specs.Scan.{next_command}
use Rattle.scan.specs.Tail.{tail_of}
use Rattle.scan.specs.declared.Kind.{Kind}
use Rattle.scan.specs.declared.Scan.{Scan}
use Rattle.scan.specs.declared.Scan.TheVariants as scan
use Rattle.command.specs.declared.Command.{Command}
use Rattle.command.specs.declared.Command.TheVariants.{End}
use Rattle.recognise.specs.Commands.{command_of}
use Rattle.sequence.specs.Leads.{lead_of}
use Rattle.sequence.specs.Turns.{refusal, led, turned, turn_of, tail_fault}
use Rattle.sequence.specs.Commands.{Sequence, stopped, followed, commands_from, commands_of}
use Rattle.sequence.specs.declared.Lead.{Lead}
use Rattle.sequence.specs.declared.Lead.TheVariants as lead
use Rattle.sequence.specs.declared.Placed.{Placed}
use Rattle.law_reading.specs.State.{Room, State, begun}
use Rattle.law_reading.specs.Reading.{step_at}
use Rattle.law_kept.specs.Kept.{Keeps, nothing, one, KeepsRules}
use Rattle.mending.specs.Extents.{pieces, closing, extents_from, extents}
use Rattle.mending.proofs.Found.{Cuts}
use Rattle.mending.specs.Changes.{follows}
use Rattle.mending.specs.Laws.{Sound}
use Rattle.law_mending.proofs.Leads.{Leads, leads}
use Rattle.law_mending.proofs.Scanned.{Scanned, scanned, cuts_so}
use Rattle.law_mending.proofs.Opens.{closing_end, end_closing}
use Rattle.law_mending.proofs.Tidy.{Tidy, tidy_more, tidy_last}
use Rattle.law_mending.proofs.Passing.{passes, clean_behind}

-- the complete commands from a place on are the next one and those after it
module _ (book : Book) (file : List ℕ) {at start next : ℕ} (c : Cuts file at start next) where
  behind_so : start + length (slice start next file) ≡ next
  behind_so = omega (arith, c.start_so, c.next_so)

  more_extents : closing book (slice start next file) ≡ false →
      extents_from book at (pieces (drop at file)) ≡ (start, slice start next file) ∷ extents_from book (start + length (slice start next file)) (pieces (drop next file))
  unfolding extents_from
  more_extents e =
      ap (extents_from book at) c.cut_there
      ∙ rw (e, extents_from) (λ i. (c.start_so i, slice start next file) ∷ extents_from book (c.start_so i + length (slice start next file)) (pieces (drop next file)))

  last_extents : closing book (slice start next file) ≡ true → extents_from book at (pieces (drop at file)) ≡ (start, slice start next file) ∷ []
  unfolding extents_from
  last_extents e = ap (extents_from book at) c.cut_there ∙ rw (e, extents_from) (λ i. (c.start_so i, slice start next file) ∷ [])

-- the first of the commands that are kept
abbrev Firsts : (room : Room) (file : List ℕ) (s t : State) → List Placed → Type 0
Firsts room file s t [] = Unit
Firsts room file s t (c ∷ cs) = ((step_at room file c s).fault ≡ 0) × Keeps room file (step_at room file c s).next cs t

firsts : {room : Room} {file : List ℕ} {s t : State} {cs : List Placed} → Keeps room file s cs t → Firsts room file s t cs
firsts nothing = tt
firsts (one e k) = (e, k)

is_false : (t : Bool) → (t ≡ true → ⊥) → t ≡ false
is_false true h = absurd (h refl)
is_false false h = refl

module _ (book : Book) (room : Room) (file : List ℕ) (t : State) where
  abbrev Reads : State → Sequence → Type 0
  Reads s l = Keeps room file s l.commands t × (l.fault.number ≡ 0)

  abbrev From : ℕ → State → Type 0
  From at s = Tidy book file at (extents_from book at (pieces (drop at file))) s

  -- a command, and what is read after it
  module _ {at : ℕ} {kind : Kind} {start from end next : ℕ} (f : Format) (k : Scanned file at kind start from end next) (s : State) where
    abbrev said : Command
    said = command_of book f kind (slice from end file)

    abbrev placed : Placed
    placed = record { place = start; from = from; end = end; command = said }

    more_tidy : (said ≡ End → ⊥) → (step_at room file placed s).fault ≡ 0 → From next (step_at room file placed s).next → From at s
    more_tidy other e rest =
        let c = cuts_so k in
        let open-so : closing book (slice start next file) ≡ false = is_false _ (λ q. other (closing_end k book f q)) in
        let r : Tidy book file (start + length (slice start next file)) (extents_from book (start + length (slice start next file)) (pieces (drop next file))) (step_at room file placed s).next =
        subst (λ (n : ℕ). Tidy book file n (extents_from book n (pieces (drop next file))) (step_at room file placed s).next) (sym (behind_so book file c)) rest in
        subst (λ (es : List (ℕ × List ℕ)). Tidy book file at es s) (sym (more_extents book file c open-so))
        (tidy_more book file at start (slice start next file) (passes k book f room s e) r)

    last_tidy : said ≡ End → (tail_fault (tail_of file next)).number ≡ 0 → From at s
    last_tidy is e =
        let c = cuts_so k in
        let shut : closing book (slice start next file) ≡ true = end_closing k book f is in
        let clean : follows (drop (start + length (slice start next file)) file) ≡ false =
        ap (λ (n : ℕ). follows (drop n file)) (behind_so book file c) ∙ clean_behind file next c.inside e in
        subst (λ (es : List (ℕ × List ℕ)). Tidy book file at es s) (sym (last_extents book file c shut))
        (tidy_last book file at start (slice start next file) shut clean)

  -- a turn of the walk
  module _ (k : ℕ) (on : (g : Format) (n : ℕ) (s : State) → Reads s (commands_from book k g file n) → From n s) (f : Format) (at : ℕ) (s : State) where
    module _ {kind : Kind} {start from end next : ℕ} (q : next_command book file at ≡ scan.Command kind start from end next) where
      abbrev scan_so : Scanned file at kind start from end next
      scan_so = scanned book file at q

      turn_so : {way : Lead} → lead_of (said f scan_so s) ≡ way → turn_of book f file at ≡ led f (placed f scan_so s) way next
      unfolding turn_of turned
      turn_so e = ap (turned book f file) q ∙ ap (λ (w : Lead). led f (placed f scan_so s) w next) e

      led_tidy : (way : Lead) → lead_of (said f scan_so s) ≡ way → Leads (said f scan_so s) way → Reads s (commands_from book (suc k) f file at) → From at s
      unfolding commands_from led
      led_tidy (lead.Broken number) e l r =
          let w : commands_from book (suc k) f file at ≡ stopped (refusal number start) = rw (turn_so e, commands_from) in
          absurd (l (subst (Reads s) w r).1)
      led_tidy lead.Last e l r =
          let w : commands_from book (suc k) f file at ≡ followed (placed f scan_so s) (stopped (tail_fault (tail_of file next))) = rw (turn_so e, commands_from) in
          last_tidy f scan_so s l (subst (Reads s) w r).1
      led_tidy (lead.Format g) e l r =
          let w : commands_from book (suc k) f file at ≡ followed (placed f scan_so s) (commands_from book k g file next) = rw (turn_so e, commands_from) in
          let v = subst (Reads s) w r in
          let d = firsts v.0 in
          more_tidy f scan_so s l d.0 (on g next _ (d.1, v.1))
      led_tidy lead.Other e l r =
          let w : commands_from book (suc k) f file at ≡ followed (placed f scan_so s) (commands_from book k f file next) = rw (turn_so e, commands_from) in
          let v = subst (Reads s) w r in
          let d = firsts v.0 in
          more_tidy f scan_so s l d.0 (on f next _ (d.1, v.1))

    turn_tidy : (x : Scan) → next_command book file at ≡ x → Reads s (commands_from book (suc k) f file at) → From at s
    unfolding commands_from turn_of turned
    turn_tidy (scan.Command kind start from end next) q r = led_tidy q (lead_of (said f (scan_so q) s)) refl (leads (said f (scan_so q) s)) r
    turn_tidy (scan.BadByte place) q r =
        let w : commands_from book (suc k) f file at ≡ stopped (refusal 2 place) = rw (ap (turned book f file) q, commands_from) in
        absurd (let z : 2 ≡ 0 = (subst (Reads s) w r).1 in omega arith)
    turn_tidy (scan.Ended place) q r =
        let w : commands_from book (suc k) f file at ≡ stopped (refusal 3 place) = rw (ap (turned book f file) q, commands_from) in
        absurd (let z : 3 ≡ 0 = (subst (Reads s) w r).1 in omega arith)

  from_tidy : (k : ℕ) (f : Format) (at : ℕ) (s : State) → Reads s (commands_from book k f file at) → From at s
  unfolding commands_from
  from_tidy zero f at s r = absurd (let z : 3 ≡ 0 = r.1 in omega arith)
  from_tidy (suc k) f at s r = turn_tidy k (from_tidy k) f at s (next_command book file at) refl r

  -- it is not too long
  pub kept_fits : KeepsRules book room file t → fits file ≡ true
  unfolding commands_of
  kept_fits k = go (fits file) refl
    where
      go : (b : Bool) → fits file ≡ b → fits file ≡ true
      go true e = e
      go false e =
          let w : commands_of book file ≡ stopped (refusal 1 0) = rw e refl in
          absurd (let z : 1 ≡ 0 = (subst (Reads (begun book)) w (k.commands, k.behind)).1 in omega arith)

  pub kept_sound : KeepsRules book room file t → Sound book file
  unfolding commands_of extents
  kept_sound k =
      let f = kept_fits k in
      let w : commands_of book file ≡ commands_from book (suc (length file)) no_format file 0 = rw f refl in
      let y = from_tidy (suc (length file)) no_format 0 (begun book) (subst (Reads (begun book)) w (k.commands, k.behind)) in
      record { ends = y.ends; alone = y.alone; clean = y.clean }
