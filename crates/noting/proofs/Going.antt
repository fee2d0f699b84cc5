-- The pass over the commands, between two of them: those before are known, and those left are the others.
-- Assumes nothing.
use Prim.Native.Nat.{ℕ, ◌≤◌, ◌<◌}
use mathlib.Core.Path.{◌≡◌, sym, ap, ◌∙◌}
use mathlib.Core.Bool.{true}
use mathlib.Core.List.{List, [], ◌∷◌, ◌++◌, append_assoc, append-nil}
use native.Mathlib.Omega.{arith}
use lib.ListN.{length}
use borrow.Author.Tests.{leb-true}
use Rattle.book.specs.declared.Book.{Book}
use Rattle.formats.specs.Format.{no_format}
use Rattle.formats.specs.declared.Format.{Format}
use Rattle.scan.specs.Permitted.{fits}
use Rattle.sequence.specs.Commands.{Sequence, commands_of}
use Rattle.sequence.specs.Turns.{turn_of}
use Rattle.sequence.specs.declared.Placed.{Placed}
use Rattle.sequence.specs.declared.Refusal.{Refusal}
use Rattle.sequence.specs.declared.Turn.TheVariants.{Fault, Last, More}
use Rattle.sequence.proofs.Walk.{walk, walk_fault, walk_last, walk_more, more_onward}
use Rattle.index.specs.Numbers.{Numbered}
use Rattle.notes.specs.Designators.{Designators}
use Rattle.noting.specs.Steps.{begun, Small, Notes}
use Rattle.noting.specs.Holds.{Noted}
use Rattle.noting.specs.declared.Noting.{Noting}
use Rattle.noting.proofs.Turns.{last_begins, more_begins}
use Rattle.noting.proofs.Known.{Known, known_more}
use Rattle.noting.proofs.Ends.{known_none, known_all}

pub record Going (book : Book) (file notes names roles : List ℕ) (known : Noting) (n : Format) (at : ℕ) : Type 0 where
  pub inside : at ≤ length file
  pub small : length file ≤ 16777216
  pub sound : (commands_of book file).fault.number ≡ 0
  pub before : List Placed
  pub order : (commands_of book file).commands ≡ before ++ (walk book n file at).commands
  pub holds : Known book file notes names roles known at before

pub going_start : (book : Book) (file notes names roles : List ℕ) → fits file ≡ true → (commands_of book file).fault.number ≡ 0 → Going book file notes names roles begun no_format 0
unfolding commands_of fits
going_start book file notes names roles fit sound = record {
  inside = omega arith;
  small = leb-true (length file) 16777216 fit;
  sound = sound;
  before = [];
  order = rw fit;
  holds = known_none book file notes names roles;
}

module _ {book : Book} {file notes names roles : List ℕ} {known : Noting} {n : Format} {at : ℕ} (g : Going book file notes names roles known n at) where
  pub going_asks : Small known × Designators file names known.names × Numbered roles known.roles
  going_asks =
      let k = g.holds in
      let i = g.inside in
      let s = g.small in
      let a = k.few_operations in
      let b = k.few_settings in
      let d = k.few_apertures in
      (record { operations = omega arith; settings = omega arith; apertures = omega arith }, k.table, k.numbered)

  pub going_fault : {f : Refusal} → turn_of book n file at ≡ Fault f → Noted book file notes names roles known
  going_fault e =
      known_all book file notes names roles known at g.before
      (g.order ∙ ap (λ (l : Sequence). g.before ++ l.commands) (walk_fault book n file at e) ∙ append-nil g.before) g.holds

  module _ {c : Placed} {notes' names' roles' : List ℕ} {r : Noting} (s : Notes file notes notes' names names' roles roles' known c r) where
    pub going_last : {next : ℕ} → turn_of book n file at ≡ Last c next → Noted book file notes' names' roles' r
    going_last {next} e =
        let b = last_begins book n file at g.inside e in
        let order = g.order ∙ ap (λ (l : Sequence). g.before ++ l.commands) (walk_last book n file at e) in
        known_all book file notes' names' roles' r next (g.before ++ (c ∷ [])) order
        (known_more book file g.before c [] order g.sound b.0 b.1 g.holds s)

    pub going_more : {m : Format} {next : ℕ} → turn_of book n file at ≡ More c m next → Going book file notes' names' roles' r m next
    going_more {m} {next} e =
        let b = more_begins book n file at g.inside e in
        let order = g.order ∙ ap (λ (l : Sequence). g.before ++ l.commands) (walk_more book n file at g.inside e) in
        record {
          inside = (more_onward book n file at g.inside e).1;
          small = g.small;
          sound = g.sound;
          before = g.before ++ (c ∷ []);
          order = order ∙ sym (append_assoc g.before (c ∷ []) (walk book m file next).commands);
          holds = known_more book file g.before c (walk book m file next).commands order g.sound b.0 b.1 g.holds s;
        }

    pub going_less : {m : Format} {next : ℕ} → turn_of book n file at ≡ More c m next → (at < next) × (next ≤ length file)
    going_less e = more_onward book n file at g.inside e
