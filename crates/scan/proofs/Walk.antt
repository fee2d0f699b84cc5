-- The walk byte by byte finds the next command: from between commands on it ends in what `next_command` says.
-- Assumes nothing.
use Rattle.base.specs.Or.{◌or◌}
use Prim.Native.Nat.{ℕ, suc, ◌+◌, ◌≤◌}
use mathlib.Core.Path.{◌≡◌, refl, ap, sym, ◌∙◌}
use mathlib.Core.Bool.{Bool, true, false, not}
use mathlib.Core.List.{List, [], ◌∷◌}
use native.Mathlib.Omega.{arith}
use lib.Dec.{eqb}
use lib.ListN.{length, drop, length-drop}
use lib.Seq.{drop-drop}
use borrow.Author.Tests.{eqb-true}
use Rattle.base.specs.And.{◌and◌}
use Rattle.base.specs.Breaks.{is_break}
use Rattle.base.specs.Bytes.{same_bytes}
use Rattle.text.specs.First.{first_in, skipped}
use Rattle.text.specs.Text.{◌begins◌}
use Rattle.fields.specs.Parts.{part_after, opens_macro}
use Rattle.fields.specs.declared.Part.TheVariants.{Start, Mark, MarkA, Over}
use Rattle.fields.proofs.Ahead.{first_here, first_later}
use Rattle.fields.proofs.Macros.{no_macro}
use Rattle.fields.proofs.Opened.{word_field, mark_field, begins_none, begins_next}
use Rattle.letters.specs.Table.{nothing, follows}
use Rattle.scan.specs.Fields.{is_new, in_field}
use Rattle.scan.specs.Permitted.{printable, permitted, bad_in}
use Rattle.scan.specs.Scan.{kind_of, text_from, end_of, ends, cut_by, command_in, next_command}
use Rattle.scan.specs.Ways.{kind_after, stand, idle, fresh, moved, within, inside, opening, step, ended, run}
use Rattle.scan.specs.declared.Kind.{Kind}
use Rattle.scan.specs.declared.Kind.TheVariants.{Word, Extended, Macro}
use Rattle.book.specs.declared.Book.{Book}
use Rattle.scan.specs.declared.Scan.{Scan}
use Rattle.scan.specs.declared.Scan.TheVariants.{Ended}
use Rattle.scan.specs.declared.Way.TheVariants.{Between, Inside}
use Rattle.scan.proofs.Bad.{bad_goes}
use Rattle.scan.proofs.Cut.{cut_ended}
use Rattle.scan.proofs.Inside.{Sees, sees_on, Ready, comes}
use Rattle.scan.proofs.Run.{run_between, run_inside, run_same}

module _ (book : Book) (n at b : ℕ) (s : List ℕ) (long : n ≡ at + length (b ∷ s)) where
  abbrev field : ℕ → Bool
  field = in_field book (b ∷ s) at

  -- a command that begins with no `%`
  word : eqb b 37 ≡ false → run book n at (Inside (fresh Word Start)) (b ∷ s) at ≡ command_in book n (b ∷ s) at
  unfolding idle command_in text_from follows kind_of no_macro in_field
  word f =
      let kind : kind_of (b ∷ s) ≡ Word = rw (begins_none b s 37 (65 ∷ 77 ∷ []) 2 f, begins_none b s 37 [] 0 f) in
      rw kind (comes book n at Word field (b ∷ s) at Start 0 0 0 0 0 ready)
    where
      ready : Ready book n at Word field Start 0 0 0 (b ∷ s) at
      ready =
          record {
            long = long;
            high = λ z. absurd (omega arith);
            behind = λ z. absurd (omega arith);
            plain = refl;
            sees = λ i h. ap (λ (t : Bool). is_new book.letters and t) (sym (word_field book b s at i f));
          }

  -- after the `%` of an extended command
  module _ (f : eqb b 37 ≡ true) where
    pub sees_mark : (kind : Kind) → Sees book n at kind field Mark s (at + 1)
    unfolding in_field
    sees_mark kind i h = ap (λ (t : Bool). is_new book.letters and t) (sym (mark_field book b s at i f))

    extended : s begins "AM" ≡ false → run book n at (Inside (fresh Extended Mark)) s (at + 1) ≡ command_in book n (b ∷ s) at
    unfolding idle command_in text_from follows kind_of same_bytes no_macro
    extended g =
        let kind : kind_of (b ∷ s) ≡ Extended = extended_kind in
        rw kind (comes book n at Extended field s (at + 1) Mark 0 0 0 0 0 ready)
      where
        extended_kind : kind_of (b ∷ s) ≡ Extended
        extended_kind = rw (begins_next b s 37 (65 ∷ 77 ∷ []) 2 f, g, begins_next b s 37 [] 0 f)

        ready : Ready book n at Extended field Mark 0 0 0 s (at + 1)
        ready =
            record {
              long = omega arith;
              high = λ z. absurd (omega arith);
              behind = λ z. absurd (omega arith);
              plain = rw g;
              sees = sees_mark Extended;
            }

-- `%AM`
module _ (book : Book) (n at b : ℕ) (r : List ℕ) (long : n ≡ at + length (b ∷ 65 ∷ 77 ∷ r)) (f : eqb b 37 ≡ true) where
  abbrev all : List ℕ
  all = b ∷ 65 ∷ 77 ∷ r

  macro_kind : kind_of all ≡ Macro
  unfolding kind_of same_bytes
  macro_kind = rw (begins_next b (65 ∷ 77 ∷ r) 37 (65 ∷ 77 ∷ []) 2 f)

  first_two : run book n at (Inside (fresh Extended Mark)) (65 ∷ 77 ∷ r) (at + 1) ≡ run book n at (Inside (stand Macro Over 77 nothing 0)) r (at + 1 + 1 + 1)
  unfolding step inside within idle permitted printable moved kind_after opens_macro part_after end_of ◌and◌ ◌or◌
  first_two =
      run_inside book n at (Inside (fresh Extended Mark)) 65 (77 ∷ r) (at + 1) {x = stand Extended MarkA 65 nothing 0} refl
      ∙ run_inside book n at (Inside (stand Extended MarkA 65 nothing 0)) 77 r (at + 1 + 1) {x = stand Macro Over 77 nothing 0} refl

  end_behind : first_in (ends Macro) (65 ∷ 77 ∷ r) (at + 1) ≡ first_in (ends Macro) r (at + 1 + 1 + 1)
  unfolding end_of
  end_behind = first_later (ends Macro) 65 (77 ∷ r) (at + 1) refl ∙ first_later (ends Macro) 77 r (at + 1 + 1) refl

  bad_behind : bad_in Macro (in_field book all at) 0 0 (65 ∷ 77 ∷ r) (at + 1) ≡ bad_in Macro (in_field book all at) 77 0 r (at + 1 + 1 + 1)
  unfolding permitted printable ◌and◌ ◌or◌
  bad_behind =
      bad_goes Macro (in_field book all at) 0 65 (77 ∷ r) (at + 1) refl
      ∙ bad_goes Macro (in_field book all at) 65 77 r (at + 1 + 1) refl

  ready_macro : Ready book n at Macro (in_field book all at) Over 0 0 0 r (at + 1 + 1 + 1)
  unfolding part_after no_macro
  ready_macro =
      record {
        long = omega arith;
        high = λ z. absurd (omega arith);
        behind = λ z. absurd (omega arith);
        plain = refl;
        sees =
            sees_on book n at Macro (in_field book all at) MarkA 77 r (at + 1 + 1)
            (sees_on book n at Macro (in_field book all at) Mark 65 (77 ∷ r) (at + 1)
            (sees_mark book n at b (65 ∷ 77 ∷ r) long f Macro));
      }

  macro : run book n at (Inside (fresh Extended Mark)) (65 ∷ 77 ∷ r) (at + 1) ≡ command_in book n all at
  unfolding command_in text_from follows
  macro =
      rw macro_kind
      (first_two
      ∙ comes book n at Macro (in_field book all at) r (at + 1 + 1 + 1) Over 77 0 0 0 0 ready_macro
      ∙ sym (λ i. cut_by Macro n at (end_behind i) (bad_behind i)))

-- after `%`, whatever comes
marked : (book : Book) (n at b : ℕ) (s : List ℕ) → n ≡ at + length (b ∷ s) → eqb b 37 ≡ true →
    run book n at (Inside (fresh Extended Mark)) s (at + 1) ≡ command_in book n (b ∷ s) at
unfolding same_bytes
marked book n at b [] long f = extended book n at b [] long f refl
marked book n at b (c ∷ []) long f = go (eqb c 65) refl
  where
    go : (t : Bool) → eqb c 65 ≡ t → run book n at (Inside (fresh Extended Mark)) (c ∷ []) (at + 1) ≡ command_in book n (b ∷ c ∷ []) at
    go true g = extended book n at b (c ∷ []) long f (rw (same_bytes, g))
    go false g = extended book n at b (c ∷ []) long f (rw (same_bytes, g))
marked book n at b (c ∷ d ∷ r) long f = go (eqb c 65) refl (eqb d 77) refl
  where
    go : (t : Bool) → eqb c 65 ≡ t → (u : Bool) → eqb d 77 ≡ u → run book n at (Inside (fresh Extended Mark)) (c ∷ d ∷ r) (at + 1) ≡ command_in book n (b ∷ c ∷ d ∷ r) at
    go true g true h = rw (eqb-true c 65 g, eqb-true d 77 h) (macro book n at b r long f)
    go true g false h = extended book n at b (c ∷ d ∷ r) long f (rw (same_bytes, g, same_bytes, h))
    go false g u h = extended book n at b (c ∷ d ∷ r) long f (rw (same_bytes, g))

-- from the first byte of a command on
module _ (book : Book) (n at b : ℕ) (s : List ℕ) (long : n ≡ at + length (b ∷ s)) (e : is_break b ≡ false) where
  pub opens : run book n at Between (b ∷ s) at ≡ command_in book n (b ∷ s) at
  unfolding step inside opening idle
  opens = go (eqb b 37) refl
    where
      go : (t : Bool) → eqb b 37 ≡ t → run book n at Between (b ∷ s) at ≡ command_in book n (b ∷ s) at
      go true f = run_inside book n at Between b s at {x = fresh Extended Mark} (rw (e, f)) ∙ marked book n at b s long f
      go false f = run_same book n at Between (Inside (fresh Word Start)) b s at (rw (e, f)) ∙ word book n at b s long f

-- between commands
module _ (book : Book) (file : List ℕ) where
  abbrev there : ℕ → Bool
  there = λ b. not (is_break b)

  -- the place that s begins at, in a file that is s from there on
  abbrev Next : List ℕ → ℕ → Type 0
  Next s at = drop at file ≡ s → run book (length file) at Between s at ≡ next_command book file at

  -- the command at a place
  abbrev at_place : ℕ → Scan
  at_place p = command_in book (length file) (drop p file) p

  nothing_left : (at : ℕ) → length file ≤ at → command_in book (length file) [] at ≡ Ended (length file)
  unfolding command_in kind_of same_bytes text_from first_in bad_in
  nothing_left at h = cut_ended Word (length file) at (omega arith) h

  walk_end : (at : ℕ) → length file ≤ at → Next [] at
  unfolding run ended next_command first_in
  walk_end at h e =
      let here : skipped file at ≡ at = ap (λ s. first_in there s at) e in
      sym (ap at_place here ∙ ap (λ s. command_in book (length file) s at) e ∙ nothing_left at h)

  module _ (b : ℕ) (s : List ℕ) (at : ℕ) (e : drop at file ≡ b ∷ s) where
    behind : drop (at + 1) file ≡ s
    behind = sym (drop-drop 1 at file) ∙ ap (drop 1) e

    long : length file ≡ at + length (b ∷ s)
    long =
        let l = length-drop at file in
        let m : length (drop at file) ≡ suc (length s) = ap length e in
        omega arith

    walk_break : is_break b ≡ true → run book (length file) (at + 1) Between s (at + 1) ≡ next_command book file (at + 1) →
        run book (length file) at Between (b ∷ s) at ≡ next_command book file at
    unfolding step next_command
    walk_break f rest =
        let on : skipped file at ≡ skipped file (at + 1) =
        ap (λ s. first_in there s at) e ∙ first_later there b s at (ap not f) ∙ sym (ap (λ s. first_in there s (at + 1)) behind) in
        run_between book (length file) at Between b s at (rw f) ∙ rest ∙ sym (ap at_place on)

    walk_open : is_break b ≡ false → run book (length file) at Between (b ∷ s) at ≡ next_command book file at
    unfolding next_command
    walk_open f =
        let here : skipped file at ≡ at = ap (λ s. first_in there s at) e ∙ first_here there b s at (ap not f) in
        opens book (length file) at b s long f ∙ sym (ap at_place here ∙ ap (λ s. command_in book (length file) s at) e)

  pub walk : (s : List ℕ) (at : ℕ) → Next s at
  walk [] at e =
      let l = length-drop at file in
      let m : length (drop at file) ≡ 0 = ap length e in
      walk_end at (omega arith) e
  walk (b ∷ s) at e = go (is_break b) refl (walk s (at + 1) (behind b s at e))
    where
      go : (t : Bool) → is_break b ≡ t → run book (length file) (at + 1) Between s (at + 1) ≡ next_command book file (at + 1) →
          run book (length file) at Between (b ∷ s) at ≡ next_command book file at
      go true f rest = walk_break b s at e f rest
      go false f rest = walk_open b s at e f
