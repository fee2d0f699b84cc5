-- "An accepted file comes back unchanged with an empty report" (02, [13]; decision 544).
use Rattle.std.specs.Prelude.{ℕ, ◌≤◌, ◌≡◌, List, [], length}
use Rattle.book.specs.declared.Book.{Book}
use Rattle.law_reading.specs.State.{Room, State}
use Rattle.mending.specs.Changes.{changes}
use Rattle.mending.specs.Mended.{report}
use Rattle.mending.specs.Rebuilt.{mended}
use Rattle.mend_call.specs.Outcome.{accepted, mending_of}

-- no change applies, so that the file comes back as it is; and where the output has room for its bytes, mending is accepted with the
-- state of reading, however short the report is
pub record Intact (book : Book) (room : Room) (file : List ℕ) (s : State) : Type 0 where
  pub none : changes book file ≡ []
  pub empty : report book file ≡ []
  pub unchanged : mended book file ≡ file
  pub the_same : (bytes words : ℕ) → length file ≤ bytes → mending_of book room bytes words file ≡ accepted s
