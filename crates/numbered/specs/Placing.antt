-- The outcome of the call for a placement list by the book that is named; or 101, a number of ours, before all else (02, [4]; decision 420).
use Rattle.std.specs.Prelude.{ℕ, ◌≡◌, List, replicate, None, Option, Some}
use Rattle.progress.specs.Lent.{Lent}
use Rattle.reader.specs.Reads.{Zeroed}
use Rattle.placement_list.specs.Lists.{answered}
use Rattle.placement_list.specs.declared.Answer.{Answer}
use Rattle.placement_call.specs.Placement.{Work, Places}
use Rattle.book.specs.declared.Book.{Book}

-- l is what was lent for the sheet, l' what it is at the end; out has so many bytes
pub record Unplaced (l l' : Lent) (head : List ℕ) (room : ℕ) (out : List ℕ) (r : Answer) : Type 0 where
  pub answer : r ≡ answered 101 0 0
  pub list_zero : out ≡ replicate room 0
  pub zeroed : Zeroed l l' head

unfoldable pub PlacesBy : Option Book → Lent → Lent → List ℕ → Work → ℕ → List ℕ → Answer → Type 0
PlacesBy (Some book) l l' head w room out r = Places book l l' head w room out r
PlacesBy None l l' head w room out r = Unplaced l l' head room out r
