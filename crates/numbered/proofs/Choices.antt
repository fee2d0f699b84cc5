-- The outcome of the calls by the book that is named: one law for each way out.
-- Assumes nothing.
use Rattle.std.specs.Prelude.{None, Option, Some, Err, Result}
use Prim.Native.Nat.{ℕ}
use mathlib.Core.Path.{◌≡◌, refl}
use mathlib.Core.List.{List}
use Rattle.book.specs.declared.Book.{Book}
use Rattle.sequence.specs.Rounded.{rounded_in}
use Rattle.attribute_call.specs.declared.Kind.{Kind}
use Rattle.attribute_call.specs.Attribute as attribute
use Rattle.signature.specs.Signature as signature
use Rattle.labels.specs.Labels as labels
use Rattle.law_reading.specs.State.{Room}
use Rattle.law_reading.specs.Reading.{reading}
use Rattle.progress.specs.Lent.{Lent}
use Rattle.reader.specs.Reads.{Reads, Zeroed}
use Rattle.numbered.specs.Calls.{attribute_by, signature_by, reading_by, rounded_by, label_named_by, label_at_by}
use Rattle.reader.specs.declared.Accepted.{Accepted}
use Rattle.sequence.specs.declared.Refusal.{Refusal}

-- a book is named
module _ {c : Option Book} {book : Book} (e : c ≡ Some book) (file : List ℕ) where
  pub attribute_by_lem : (kind : Kind) (place : ℕ) (name : List ℕ) → attribute.attribute_of book file kind place name ≡ attribute_by c file kind place name
  unfolding attribute_by
  attribute_by_lem kind place name = rw e

  pub signature_by_lem : signature.signature_of book file ≡ signature_by c file
  unfolding signature_by
  signature_by_lem = rw e

  pub label_named_by_lem : (name : List ℕ) → labels.label_named book file name ≡ label_named_by c file name
  unfolding label_named_by
  label_named_by_lem name = rw e

  pub label_at_by_lem : (i : ℕ) → labels.label_at book file i ≡ label_at_by c file i
  unfolding label_at_by
  label_at_by_lem i = rw e

  pub reads_by : (room : Room) (w w' : Lent) (head : List ℕ) (r : Result Accepted Refusal) → Reads (rounded_in book file) (reading book room file) w w' head r →
      Reads (rounded_by c file) (reading_by c room file) w w' head r
  unfolding rounded_by reading_by
  reads_by room w w' head r h = rw e h

-- none is
module _ {c : Option Book} (e : c ≡ None) (file : List ℕ) where
  pub attribute_none : (kind : Kind) (place : ℕ) (name : List ℕ) → attribute.refused 101 ≡ attribute_by c file kind place name
  unfolding attribute_by
  attribute_none kind place name = rw e

  pub signature_none : signature.refused 101 0 ≡ signature_by c file
  unfolding signature_by
  signature_none = rw e

  pub label_named_none : (name : List ℕ) → labels.refused 101 ≡ label_named_by c file name
  unfolding label_named_by
  label_named_none name = rw e

  pub label_at_none : (i : ℕ) → labels.refused 101 ≡ label_at_by c file i
  unfolding label_at_by
  label_at_none i = rw e

  pub reads_none : (room : Room) (w w' : Lent) (head : List ℕ) → Zeroed w w' head → Reads (rounded_by c file) (reading_by c room file) w w' head (Err (record { number = 101; place = 0 }))
  unfolding rounded_by reading_by Reads
  reads_none room w w' head z = rw e (refl, z)

-- by one choice or another that is the same
pub reads_so : {c c' : Option Book} → c ≡ c' → (file : List ℕ) (room : Room) (w w' : Lent) (head : List ℕ) (r : Result Accepted Refusal) →
    Reads (rounded_by c file) (reading_by c room file) w w' head r → Reads (rounded_by c' file) (reading_by c' room file) w w' head r
reads_so e file room w w' head r h = rw e at h
