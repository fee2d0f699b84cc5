-- What holds of every mending that is accepted (02, [13]; decision 548).
use Rattle.std.specs.Prelude.{ℕ, ◌≡◌, List, []}
use Rattle.book.specs.declared.Book.{Book}
use Rattle.law_reading.specs.State.{Room, State}
use Rattle.law_reading.specs.Reading as reading
use Rattle.mending.specs.Changes.{changes}
use Rattle.mending.specs.Mended.{changes_in, report}
use Rattle.mending.specs.Rebuilt.{rebuilt, mended}
use Rattle.mend_call.specs.Outcome.{accepted, mending_of}

pub record Holds (book : Book) (room : Room) (bytes words : ℕ) (file : List ℕ) (s : State) : Type 0 where
  -- "The result is always one the reader accepts, under the edition named"
  pub is_read : reading.reading book room (mended book file) ≡ reading.accepted s
  -- "mending twice is the same as once", with an empty report and the same sheet
  pub again : mended book (mended book file) ≡ mended book file
  pub empty : changes book (mended book file) ≡ []
  pub the_same : mending_of book room bytes words (mended book file) ≡ accepted s
  -- "enough to rebuild the mended file"
  pub rebuilds : rebuilt file (changes_in (report book file)) ≡ mended book file
