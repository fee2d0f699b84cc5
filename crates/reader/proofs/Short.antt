-- A reading by the book of the short call is the short call's.
-- Assumes nothing.
use Rattle.std.specs.Prelude.{Result}
use Prim.Native.Nat.{ℕ}
use mathlib.Core.Path.{◌≡◌}
use mathlib.Core.List.{List}
use Rattle.book.specs.declared.Book.{Book}
use Rattle.sequence.specs.Rounded.{rounded_in}
use Rattle.law_reading.specs.State.{Room}
use Rattle.law_reading.specs.Reading.{reading}
use Rattle.progress.specs.Lent.{Lent}
use Rattle.reader.specs.Reads.{Reads}
use Rattle.reader.specs.declared.Accepted.{Accepted}
use Rattle.sequence.specs.declared.Refusal.{Refusal}

pub reads_same : {b b' : Book} → b ≡ b' → (file : List ℕ) (room : Room) (w w' : Lent) (head : List ℕ) (r : Result Accepted Refusal) →
    Reads (rounded_in b file) (reading b room file) w w' head r → Reads (rounded_in b' file) (reading b' room file) w w' head r
reads_same e file room w w' head r h = rw e at h
