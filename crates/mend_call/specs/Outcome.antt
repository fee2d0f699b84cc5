-- The outcome of mending a file (02, [13]; decision 546): the sheet of the mended file, or a number.
use Rattle.std.specs.Prelude.{ℕ, Bool, cond, List, eqb}
use Rattle.book.specs.declared.Book.{Book}
use Rattle.scan.specs.Permitted.{fits}
use Rattle.law_reading.specs.State.{Room, State}
use Rattle.law_reading.specs.Reading as reading
use Rattle.mending.specs.Mended.{file_fits, report_fits}
use Rattle.mending.specs.Rebuilt.{mended}

pub data Outcome : Type 0 where
  accepted : State → Outcome
  refused : ℕ → Outcome

-- "33 when the file with all these changes made is still refused other than by 17, then 17 when any lent room is short"
unfoldable pub still_refused : ℕ → ℕ
still_refused number = cond (eqb number 17) 17 33

-- by what the reader says of the mended file, and by whether the report fits
unfoldable pub judged : Bool → reading.Answer → Outcome
judged reported (reading.accepted s) = cond reported (accepted s) (refused 17)
judged reported (reading.refused number place) = refused (still_refused number)

-- in room for the sheet, for so many bytes of the mended file and so many words of the report: "the reader's own 1 first"; where the
-- mended file has no room there is none to read
unfoldable pub mending_of : Book → Room → ℕ → ℕ → List ℕ → Outcome
mending_of book room bytes words file =
    cond (fits file)
    (cond (file_fits book file bytes) (judged (report_fits book file words) (reading.reading book room (mended book file))) (refused 17))
    (refused 1)
