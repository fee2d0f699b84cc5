-- What the functions below `mend` promise each other.
use Rattle.std.specs.Prelude.{ℕ, ◌≡◌, Bool, true, false, cond, List, length, Err, Ok, Result}
use Rattle.book.specs.declared.Book.{Book}
use Rattle.progress.specs.Lent.{Lent}
use Rattle.reader.specs.Reads.{AsLong}
use Rattle.mending.specs.declared.Written.{Written}
use Rattle.mending.specs.declared.Written.TheVariants.{Both, File, Nothing}
use Rattle.mend_call.specs.Outcome.{Outcome, accepted, refused, still_refused}
use Rattle.mend_call.specs.Mends.{Given}
use Rattle.reader.specs.declared.Accepted.{Accepted}
use Rattle.sequence.specs.declared.Refusal.{Refusal}
use Rattle.mend_call.specs.declared.Mended.{Mended}

-- what the pass that mends says of the two rooms, and how much it wrote
unfoldable pub has_file : Written → Bool
has_file (Both bytes changes) = true
has_file (File bytes) = true
has_file Nothing = false

unfoldable pub has_report : Written → Bool
has_report (Both bytes changes) = true
has_report (File bytes) = false
has_report Nothing = false

unfoldable pub bytes_written : Written → ℕ
bytes_written (Both bytes changes) = bytes
bytes_written (File bytes) = bytes
bytes_written Nothing = 0

unfoldable pub changes_written : Written → ℕ
changes_written (Both bytes changes) = changes
changes_written (File bytes) = 0
changes_written Nothing = 0

-- the answer, by that of the reader and by whether the report fits
unfoldable pub answer_from : Bool → ℕ → ℕ → Result Accepted Refusal → Result Mended ℕ
answer_from reported bytes changes (Ok r) = cond reported (Ok (record { bytes = bytes; changes = changes; unit = r.unit; rounded = r.rounded })) (Err 17)
answer_from reported bytes changes (Err f) = Err (still_refused f.number)

unfoldable pub is_mended : Result Mended ℕ → Bool
is_mended (Ok m) = true
is_mended (Err number) = false

-- a refusal that has cleared nothing yet: everything is as long as it was
pub record Stopped (number : ℕ) (w w' : Lent) (bytes : ℕ) (out : List ℕ) (words : ℕ) (noted : List ℕ) (r : Result Mended ℕ) : Type 0 where
  pub answer : r ≡ Err number
  pub file_long : length out ≡ bytes
  pub report_long : length noted ≡ words
  pub as_long : AsLong w w'

unfoldable pub Comes : Book → Outcome → Lent → Lent → ℕ → List ℕ → ℕ → List ℕ → List ℕ → Result Mended ℕ → Type 0
Comes book (accepted s) w w' bytes out words noted head r = Given book s w w' bytes out words noted head r
Comes book (refused number) w w' bytes out words noted head r = Stopped number w w' bytes out words noted r
