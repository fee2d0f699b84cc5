-- Every item of an accepted file is at the place of a D01 or D03: the law that each item finds its note by.
-- Assumes nothing.
use Prim.Native.Nat.{ℕ, ◌<◌}
use mathlib.Core.Path.{◌≡◌, refl, subst}
use mathlib.Core.Bool.{Bool, true, false}
use mathlib.Core.List.{List, [], ◌∷◌}
use native.Mathlib.Omega.{arith}
use lib.Dec.{eqb}
use lib.ListN.{length, get_or}
use lib.Seq.{slice}
use Rattle.book.specs.declared.Book.{Book}
use Rattle.place.specs.Item.{zero_item}
use Rattle.place.specs.Mark.{plain}
use Rattle.sequence.specs.Commands.{commands_of}
use Rattle.sequence.specs.declared.Placed.{Placed}
use Rattle.sequence.specs.declared.Refusal.{Refusal}
use Rattle.law_reading.specs.State.{Room, State, begun}
use Rattle.law_reading.specs.Reading.{accepted, refused, step_at, read_on, reading}
use Rattle.noting.specs.Holds.{Makes, here, there}
use Rattle.law_item_places.proofs.Plain.{each_at, AllMarked, unmarked, plain_each}
use Rattle.law_item_places.proofs.Steps.{step_marked}

module _ (P : ℕ → Type 0) (room : Room) (file : List ℕ) where
  accepted_is : {s s' : State} → accepted s ≡ accepted s' → s ≡ s'
  accepted_is e = cc

  marked_on : (cs : List Placed) (f : Refusal) (s s' : State) → read_on room file cs f s ≡ accepted s' → ((p : ℕ) → Makes p cs → P p) → AllMarked P s.marks → AllMarked P s'.marks
  unfolding read_on
  marked_on [] f s s' e made w = go (eqb f.number 0) e
    where
      go : (t : Bool) → elim t [ true ↦ accepted s | false ↦ refused f.number f.place ] ≡ accepted s' → AllMarked P s'.marks
      go true q = subst (λ (x : State). AllMarked P x.marks) (accepted_is q) w
      go false q = let z : ◌≡◌ {A = ℕ} 0 1 = cc in absurd (omega arith)
  marked_on (c ∷ cs) f s s' e made w =
      go (eqb (step_at room file c s).fault 0) e
      (λ q. marked_on cs f (step_at room file c s).next s' q (λ p m. made p (there m))
      (step_marked P room (slice c.from c.end file) c.place c.command s (λ i. made c.place (here i refl)) w))
    where
      go : (t : Bool) → elim t [ true ↦ read_on room file cs f (step_at room file c s).next | false ↦ refused (step_at room file c s).fault c.place ] ≡ accepted s' →
          (read_on room file cs f (step_at room file c s).next ≡ accepted s' → AllMarked P s'.marks) → AllMarked P s'.marks
      go true q ih = ih q
      go false q ih = let z : ◌≡◌ {A = ℕ} 0 1 = cc in absurd (omega arith)

pub made_by : (book : Book) (room : Room) (file : List ℕ) (s : State) → reading book room file ≡ accepted s → (k : ℕ) → k < length (plain s.marks) →
    Makes (get_or (plain s.marks) k zero_item).place (commands_of book file).commands
unfolding reading begun
made_by book room file s e k h =
    each_at (plain_each (λ (p : ℕ). Makes p (commands_of book file).commands)
    (marked_on (λ (p : ℕ). Makes p (commands_of book file).commands) room file (commands_of book file).commands (commands_of book file).fault (begun book) s e (λ p m. m) unmarked)) k h
