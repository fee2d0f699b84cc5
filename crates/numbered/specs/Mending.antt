-- The outcome of mending by the book that is named; or 101, a number of ours, before all else (02, [13]; decision 420).
use Rattle.std.specs.Prelude.{ℕ, List, None, Option, Some, Result}
use Rattle.progress.specs.Lent.{Lent, room_of}
use Rattle.mend_call.specs.Outcome.{mending_of}
use Rattle.mend_call.specs.Mends.{Withheld, Mends}
use Rattle.book.specs.declared.Book.{Book}
use Rattle.mend_call.specs.declared.Mended.{Mended}

-- w is what was lent for the sheet, w' what it is at the end; out has so many bytes and noted so many words
unfoldable pub MendsBy : Option Book → Lent → Lent → ℕ → List ℕ → ℕ → List ℕ → List ℕ → Result Mended ℕ → Type 0
MendsBy (Some book) w w' bytes out words noted head r = Mends book (mending_of book (room_of w) bytes words w.file) w w' bytes out words noted head r
MendsBy None w w' bytes out words noted head r = Withheld 101 w w' bytes out words noted head r
