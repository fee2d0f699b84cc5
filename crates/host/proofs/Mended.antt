-- The answer of mending taken apart.
-- Assumes nothing.
use Rattle.std.specs.Prelude.{Option, Err, Ok, Result, ℕ}
use Prim.Native.Nat.{ℕ}
use mathlib.Core.Path.{◌≡◌}
use mathlib.Core.List.{List}
use Rattle.progress.specs.Lent.{Lent}
use Rattle.mend_call.specs.Answers.{number_of, bytes_of, changes_of, unit_of, rounded_of}
use Rattle.numbered.specs.Mending.{MendsBy}
use Rattle.host.specs.Mends.{MendsInto}
use Rattle.book.specs.declared.Book.{Book}
use Rattle.mend_call.specs.declared.Mended.{Mended}

module _ (c : Option Book) (w w' : Lent) (room : ℕ) (out : List ℕ) (words : ℕ) (noted head : List ℕ) (r : Result Mended ℕ) (h : MendsBy c w w' room out words noted head r) where
  pub mends_mended : (b n u d : ℕ) → r ≡ Ok (record { bytes = b; changes = n; unit = u; rounded = d }) → MendsInto c w w' room out words noted head 0 b n u d
  unfolding number_of bytes_of changes_of unit_of rounded_of
  mends_mended b n u d k = record { r = r; mends = h; number_is = rw k; bytes_is = rw k; changes_is = rw k; unit_is = rw k; rounded_is = rw k }

  pub mends_refused : (n : ℕ) → r ≡ Err n → MendsInto c w w' room out words noted head n 0 0 0 0
  unfolding number_of bytes_of changes_of unit_of rounded_of
  mends_refused n k = record { r = r; mends = h; number_is = rw k; bytes_is = rw k; changes_is = rw k; unit_is = rw k; rounded_is = rw k }
