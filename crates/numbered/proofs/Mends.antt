-- The outcome of mending by the book that a number names: by that book, or by none.
-- Assumes nothing.
use Rattle.std.specs.Prelude.{None, Option, Some, Err, Result, ℕ}
use Prim.Native.Nat.{ℕ}
use mathlib.Core.Path.{◌≡◌, refl}
use mathlib.Core.List.{List}
use lib.ListN.{replicate}
use Rattle.book.specs.declared.Book.{Book}
use Rattle.progress.specs.Lent.{Lent, room_of}
use Rattle.reader.specs.Reads.{Zeroed}
use Rattle.mend_call.specs.Outcome.{mending_of}
use Rattle.mend_call.specs.Mends.{Mends}
use Rattle.numbered.specs.Mending.{MendsBy}
use Rattle.mend_call.specs.declared.Mended.{Mended}

module _ {c : Option Book} (w w' : Lent) (bytes : ℕ) (out : List ℕ) (words : ℕ) (noted head : List ℕ) where
  pub mends_by : {book : Book} → c ≡ Some book → (r : Result Mended ℕ) → Mends book (mending_of book (room_of w) bytes words w.file) w w' bytes out words noted head r →
      MendsBy c w w' bytes out words noted head r
  unfolding MendsBy
  mends_by e r h = rw e h

  pub mends_none : c ≡ None → out ≡ replicate bytes 0 → noted ≡ replicate words 0 → Zeroed w w' head → MendsBy c w w' bytes out words noted head (Err 101)
  unfolding MendsBy
  mends_none e x y z = rw e (record { answer = refl; file_zero = x; report_zero = y; zeroed = z })
