-- A mending that is accepted: the reader accepts what it gives, mending that again changes nothing, and the report rebuilds it.
-- Assumes nothing.
use Prim.Native.Nat.{ℕ}
use mathlib.Core.Path.{◌≡◌, refl, sym, ap, ◌∙◌}
use mathlib.Core.Bool.{Bool, true, false}
use mathlib.Core.List.{List, []}
use native.Mathlib.Omega.{arith}
use lib.Dec.{leb}
use lib.ListN.{length}
use borrow.Author.Tests.{le-leb}
use Rattle.book.specs.declared.Book.{Book}
use Rattle.scan.specs.Permitted.{fits}
use Rattle.sequence.specs.Commands.{commands_of}
use Rattle.law_reading.specs.State.{Room, State}
use Rattle.law_reading.specs.Reading as reading
use Rattle.mending.specs.Changes.{changes}
use Rattle.mending.specs.Mended.{words, report, file_fits, report_fits}
use Rattle.mending.specs.Rebuilt.{mended}
use Rattle.mending.proofs.Twice.{mended_unchanged, mended_twice, report_rebuilds}
use Rattle.mend_call.specs.Laws.{Holds}
use Rattle.mend_call.specs.Outcome.{Outcome, accepted, refused, judged, mending_of}

-- a file that is read is not too long
fits_read : (book : Book) (room : Room) (file : List ℕ) (s : State) → reading.reading book room file ≡ reading.accepted s → fits file ≡ true
unfolding reading.reading commands_of reading.read_on
fits_read book room file s e = go (fits file) refl
  where
    go : (t : Bool) → fits file ≡ t → fits file ≡ true
    go true q = q
    go false q = absurd (let f : reading.reading book room file ≡ reading.refused 1 0 = rw (q, reading.reading, commands_of) refl in let z : ◌≡◌ {A = ℕ} 0 1 = cc in omega arith)

module _ (book : Book) (room : Room) (bytes words : ℕ) (file : List ℕ) (s : State) (e : mending_of book room bytes words file ≡ accepted s) where
  -- it has room, is read, and the report has room
  judged_so : (t : Bool) (x : reading.Answer) → judged t x ≡ accepted s → x ≡ reading.accepted s
  unfolding judged
  judged_so true (reading.accepted s') q = cc
  judged_so false (reading.accepted s') q = absurd (let z : ◌≡◌ {A = ℕ} 0 1 = cc in omega arith)
  judged_so t (reading.refused number place) q = absurd (let z : ◌≡◌ {A = ℕ} 0 1 = cc in omega arith)

  came : (file_fits book file bytes ≡ true) × (reading.reading book room (mended book file) ≡ reading.accepted s)
  unfolding mending_of
  came = go (fits file) refl (file_fits book file bytes) refl
    where
      go : (t : Bool) → fits file ≡ t → (u : Bool) → file_fits book file bytes ≡ u → (file_fits book file bytes ≡ true) × (reading.reading book room (mended book file) ≡ reading.accepted s)
      go true q true p = (p, judged_so (report_fits book file words) (reading.reading book room (mended book file)) (rw (q, p) at e))
      go true q false p = absurd (let f : refused 17 ≡ accepted s = rw (q, p) at e in let z : ◌≡◌ {A = ℕ} 0 1 = cc in omega arith)
      go false q u p = absurd (let f : refused 1 ≡ accepted s = rw q at e in let z : ◌≡◌ {A = ℕ} 0 1 = cc in omega arith)

  abbrev m : List ℕ
  m = mended book file

  file_fits_lem : file_fits book m bytes ≡ true
  unfolding file_fits
  file_fits_lem = ap (λ (l : List ℕ). leb (length l) bytes) (mended_twice book file) ∙ came.0

  report_fits_lem : report_fits book m words ≡ true
  unfolding report_fits report words
  report_fits_lem = rw (mended_unchanged book file) (le-leb 0 words (omega arith))

  the_same : mending_of book room bytes words m ≡ accepted s
  unfolding mending_of judged
  the_same = rw (fits_read book room m s came.1, file_fits_lem, report_fits_lem, mended_twice book file, came.1) refl

  -- 02, [13]
  pub holds : Holds book room bytes words file s
  holds = record { is_read = came.1; again = mended_twice book file; empty = mended_unchanged book file; the_same = the_same; rebuilds = report_rebuilds book file }
