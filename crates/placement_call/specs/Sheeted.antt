-- A file that is accepted, and the sheet that its reading left.
use Rattle.std.specs.Prelude.{◌≡◌, true, List, ℕ}
use Rattle.book.specs.declared.Book.{Book}
use Rattle.place.specs.Mark.{plain}
use Rattle.sheet.specs.Meaning.{sheet_items}
use Rattle.sheet.specs.Valid.{valid}
use Rattle.law_reading.specs.State.{Room, State}
use Rattle.law_reading.specs.Reading.{reading, accepted}

pub record Sheeted (book : Book) (file head e a : List ℕ) : Type 0 where
  pub room : Room
  pub state : State
  pub accepts : reading book room file ≡ accepted state
  pub sheet : valid head e a ≡ true
  pub items : sheet_items head e a ≡ plain state.marks
