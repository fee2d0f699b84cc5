-- An accepted file is mended by no change: it keeps the rules, and so is sound.
-- Assumes nothing.
use Prim.Native.Nat.{ℕ, ◌≤◌}
use mathlib.Core.Path.{◌≡◌, refl}
use mathlib.Core.Bool.{true}
use mathlib.Core.List.{List, []}
use native.Mathlib.Omega.{arith}
use lib.ListN.{length}
use borrow.Author.Tests.{le-leb}
use Rattle.book.specs.declared.Book.{Book}
use Rattle.law_reading.specs.State.{Room, State}
use Rattle.law_reading.specs.Reading as reading
use Rattle.law_kept.specs.Kept.{KeepsRules}
use Rattle.law_kept.proofs.Kept.{accepted_keeps}
use Rattle.mending.specs.Changes.{changes}
use Rattle.mending.specs.Laws.{Sound}
use Rattle.mending.specs.Mended.{words, report, file_fits, report_fits}
use Rattle.mending.specs.Rebuilt.{mended}
use Rattle.mending.proofs.Unchanged.{sound_unchanged, sound_mended}
use Rattle.mend_call.specs.Outcome.{accepted, judged, mending_of}
use Rattle.law_mending.specs.Intact.{Intact}
use Rattle.law_mending.proofs.Sound.{kept_fits, kept_sound}

module _ (book : Book) (room : Room) (file : List ℕ) {s : State} (e : reading.reading book room file ≡ reading.accepted s) where
  keeps : KeepsRules book room file s
  keeps = accepted_keeps book room file e

  sound : Sound book file
  sound = kept_sound book room file s keeps

  abbrev none : changes book file ≡ []
  none = sound_unchanged book file sound

  abbrev itself : mended book file ≡ file
  itself = sound_mended book file sound

  file_fits_lem : (bytes : ℕ) → length file ≤ bytes → file_fits book file bytes ≡ true
  unfolding file_fits
  file_fits_lem bytes h = rw itself (le-leb (length file) bytes h)

  empty : report book file ≡ []
  unfolding report words
  empty = rw none refl

  report_fits_lem : (room : ℕ) → report_fits book file room ≡ true
  unfolding report_fits
  report_fits_lem room = rw empty (le-leb 0 room (omega arith))

  the_same : (bytes words : ℕ) → length file ≤ bytes → mending_of book room bytes words file ≡ accepted s
  unfolding mending_of judged
  the_same bytes words h = rw (kept_fits book room file s keeps, file_fits_lem bytes h, report_fits_lem words, itself, e) refl

  -- 02, [13]
  pub intact : Intact book room file s
  intact = record { none = none; empty = empty; unchanged = itself; the_same = the_same }
