-- What the call that mends answers, and what it leaves in everything that is lent (02, [13]; decision 546).
use Rattle.std.specs.Prelude.{ℕ, ◌≡◌, List, length, replicate, Err, Ok, Result}
use Rattle.book.specs.declared.Book.{Book}
use Rattle.sequence.specs.Rounded.{rounded_in}
use Rattle.running.specs.Units.{unit_in}
use Rattle.law_reading.specs.State.{State}
use Rattle.progress.specs.Lent.{Lent}
use Rattle.reader.specs.Leaves.{Leaves}
use Rattle.reader.specs.Reads.{AsLong, Zeroed}
use Rattle.mending.specs.Changes.{changes}
use Rattle.mending.specs.Mended.{report, written}
use Rattle.mending.specs.Rebuilt.{mended}
use Rattle.mend_call.specs.Outcome.{Outcome, accepted, refused}
use Rattle.mend_call.specs.declared.Mended.{Mended}

-- the mended file, its changes and its sheet, zeros after each; w is what was lent for the sheet, w' what it is at the end
pub record Given (book : Book) (s : State) (w w' : Lent) (bytes : ℕ) (out : List ℕ) (words : ℕ) (noted head : List ℕ) (r : Result Mended ℕ) : Type 0 where
  pub answer : r ≡ Ok (record { bytes = length (mended book w.file); changes = length (changes book w.file); unit = unit_in s.graphics.header; rounded = rounded_in book (mended book w.file) })
  pub file_left : out ≡ written bytes (mended book w.file)
  pub report_left : noted ≡ written words (report book w.file)
  pub as_long : AsLong w w'
  pub sheet : Leaves (mended book w.file) head w'.entries w'.apertures w'.macros w'.numbers s

-- "all zero the output"
pub record Withheld (number : ℕ) (w w' : Lent) (bytes : ℕ) (out : List ℕ) (words : ℕ) (noted head : List ℕ) (r : Result Mended ℕ) : Type 0 where
  pub answer : r ≡ Err number
  pub file_zero : out ≡ replicate bytes 0
  pub report_zero : noted ≡ replicate words 0
  pub zeroed : Zeroed w w' head

-- out has so many bytes and noted so many words
unfoldable pub Mends : Book → Outcome → Lent → Lent → ℕ → List ℕ → ℕ → List ℕ → List ℕ → Result Mended ℕ → Type 0
Mends book (accepted s) w w' bytes out words noted head r = Given book s w w' bytes out words noted head r
Mends book (refused number) w w' bytes out words noted head r = Withheld number w w' bytes out words noted head r
