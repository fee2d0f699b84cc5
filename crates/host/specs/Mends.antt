-- The outcome of the call that mends, in numbers alone: its contract with its answer taken apart (decision 282).
use Rattle.std.specs.Prelude.{ℕ, ◌≡◌, List, Option, Result}
use Rattle.progress.specs.Lent.{Lent}
use Rattle.mend_call.specs.Answers.{number_of, bytes_of, changes_of, unit_of, rounded_of}
use Rattle.numbered.specs.Mending.{MendsBy}
use Rattle.book.specs.declared.Book.{Book}
use Rattle.mend_call.specs.declared.Mended.{Mended}

-- w is what was lent for the sheet, w' what it is at the end, room and words are how many bytes of out and words of noted were lent, r is
-- the answer
pub record MendsInto (c : Option Book) (w w' : Lent) (room : ℕ) (out : List ℕ) (words : ℕ) (noted head : List ℕ) (number bytes changes unit rounded : ℕ) : Type 0 where
  pub r : Result Mended ℕ
  pub mends : MendsBy c w w' room out words noted head r
  pub number_is : number ≡ number_of r
  pub bytes_is : bytes ≡ bytes_of r
  pub changes_is : changes ≡ changes_of r
  pub unit_is : unit ≡ unit_of r
  pub rounded_is : rounded ≡ rounded_of r
