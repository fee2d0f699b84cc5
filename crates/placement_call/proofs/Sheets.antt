-- What an accepted reading says of the file's commands, and what the reader's answer says of the reading.
-- Assumes nothing.
use Rattle.std.specs.Prelude.{Err, Ok, Result}
use Prim.Native.Nat.{ℕ}
use mathlib.Core.Path.{◌≡◌, refl, sym, ap, ◌∙◌}
use mathlib.Core.Bool.{Bool, true, false}
use mathlib.Core.List.{List, [], ◌∷◌}
use native.Mathlib.Omega.{arith}
use borrow.Author.Tests.{eqb-true}
use lib.Dec.{eqb}
use Rattle.book.specs.declared.Book.{Book}
use Rattle.scan.specs.Permitted.{fits}
use Rattle.sequence.specs.Commands.{commands_of}
use Rattle.sequence.specs.declared.Placed.{Placed}
use Rattle.sequence.specs.declared.Refusal.{Refusal}
use Rattle.law_reading.specs.State.{Room, State}
use Rattle.law_reading.specs.Reading as reading
use Rattle.law_reading.specs.Reading.{accepted, refused, step_at, read_on}
use Rattle.progress.specs.Lent.{Lent, room_of}
use Rattle.reader.specs.Reads.{number_of, place_of, Reads}
use Rattle.reader.specs.Leaves.{Leaves}
use Rattle.placement_call.specs.Sheeted.{Sheeted}
use Rattle.reader.specs.declared.Accepted.{Accepted}

sound_on : (room : Room) (file : List ℕ) (cs : List Placed) (f : Refusal) (s s' : State) → read_on room file cs f s ≡ accepted s' → f.number ≡ 0
unfolding read_on
sound_on room file [] f s s' e = go (eqb f.number 0) refl e
  where
    go : (t : Bool) → eqb f.number 0 ≡ t → elim t [ true ↦ accepted s | false ↦ refused f.number f.place ] ≡ accepted s' → f.number ≡ 0
    go true q z = eqb-true f.number 0 q
    go false q z = let y : ◌≡◌ {A = ℕ} 0 1 = cc in absurd (omega arith)
sound_on room file (c ∷ cs) f s s' e = go (eqb (step_at room file c s).fault 0) e (sound_on room file cs f (step_at room file c s).next s')
  where
    go : (t : Bool) → elim t [ true ↦ read_on room file cs f (step_at room file c s).next | false ↦ refused (step_at room file c s).fault c.place ] ≡ accepted s' →
        (read_on room file cs f (step_at room file c s).next ≡ accepted s' → f.number ≡ 0) → f.number ≡ 0
    go true q ih = ih q
    go false q ih = let y : ◌≡◌ {A = ℕ} 0 1 = cc in absurd (omega arith)

module _ (book : Book) (room : Room) (file : List ℕ) (s : State) (e : reading.reading book room file ≡ accepted s) where
  pub no_fault : (commands_of book file).fault.number ≡ 0
  unfolding reading.reading
  no_fault = sound_on room file (commands_of book file).commands (commands_of book file).fault _ s e

  pub it_fits : fits file ≡ true
  unfolding commands_of
  it_fits = go (fits file) refl no_fault
    where
      go : (t : Bool) → fits file ≡ t → (commands_of book file).fault.number ≡ 0 → t ≡ true
      go true q z = refl
      go false q z = let y : ◌≡◌ {A = ℕ} 1 0 = rw q at z in absurd (omega arith)

pub is_refused_lem : (rounded : ℕ) (l l' : Lent) (head : List ℕ) (r : Result Accepted Refusal) {number place : ℕ} (x : reading.Answer) → Reads rounded x l l' head r → r ≡ Err (record { number = number; place = place }) →
    x ≡ refused number place
unfolding Reads number_of place_of
is_refused_lem rounded l l' head r (accepted s) (q, long, w) e = let y : ◌≡◌ {A = ℕ} 0 1 = cc in absurd (omega arith)
is_refused_lem rounded l l' head r {number} {place} (refused n p) (q, w) e =
    let same : ◌≡◌ {A = Result Accepted Refusal} (Err (record { number = n; place = p })) (Err (record { number = number; place = place })) = sym q ∙ e in
    λ i. refused (ap number_of same i) (ap place_of same i)

pub record IsAccepted (l l' : Lent) (head : List ℕ) (x : reading.Answer) : Type 0 where
  pub state : State
  pub is : x ≡ accepted state
  pub leaves : Leaves l.file head l'.entries l'.apertures l'.macros l'.numbers state

pub is_accepted : (rounded : ℕ) (l l' : Lent) (head : List ℕ) (r : Result Accepted Refusal) {unit many : ℕ} (x : reading.Answer) → Reads rounded x l l' head r → r ≡ Ok (record { unit = unit; rounded = many }) →
    IsAccepted l l' head x
unfolding Reads
is_accepted rounded l l' head r (accepted s) (q, long, w) e = record { state = s; is = refl; leaves = w }
is_accepted rounded l l' head r (refused n p) (q, w) e = let y : ◌≡◌ {A = ℕ} 0 1 = cc in absurd (omega arith)

-- the sheet that it left
unfoldable pub sheeted : (book : Book) (l l' : Lent) (head : List ℕ) → IsAccepted l l' head (reading.reading book (room_of l) l.file) → Sheeted book l.file head l'.entries l'.apertures
sheeted book l l' head k = record { room = room_of l; state = k.state; accepts = k.is; sheet = k.leaves.sheet; items = k.leaves.items }
