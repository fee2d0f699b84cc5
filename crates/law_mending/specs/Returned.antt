-- What the call that mends leaves of a file that reading accepts: the file itself, "with an empty report" (02, [13]), and its sheet.
use Rattle.std.specs.Prelude.{ℕ, ◌≡◌, List, length, replicate, Ok, Result}
use Rattle.book.specs.declared.Book.{Book}
use Rattle.sequence.specs.Rounded.{rounded_in}
use Rattle.running.specs.Units.{unit_in}
use Rattle.law_reading.specs.State.{State}
use Rattle.progress.specs.Lent.{Lent}
use Rattle.reader.specs.Leaves.{Leaves}
use Rattle.reader.specs.Reads.{AsLong}
use Rattle.mending.specs.Mended.{written}
use Rattle.mend_call.specs.declared.Mended.{Mended}

-- zeros stand after the file, and everywhere in the report; w is what was lent for the sheet, w' what it is at the end
pub record Returned (book : Book) (s : State) (w w' : Lent) (bytes : ℕ) (out : List ℕ) (words : ℕ) (noted head : List ℕ) (r : Result Mended ℕ) : Type 0 where
  pub answer : r ≡ Ok (record { bytes = length w.file; changes = 0; unit = unit_in s.graphics.header; rounded = rounded_in book w.file })
  pub file_left : out ≡ written bytes w.file
  pub report_left : noted ≡ replicate words 0
  pub as_long : AsLong w w'
  pub sheet : Leaves w.file head w'.entries w'.apertures w'.macros w'.numbers s
