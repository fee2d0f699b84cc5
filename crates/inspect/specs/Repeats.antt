-- Entries that repeat nothing.
use Rattle.std.specs.Prelude.{◌≡◌, ℕ, ◌+◌, ◌<◌, false, List}
use Rattle.sheet.specs.Valid.{is_repeat}

-- none of the n entries from p on is a repeat
pub record NoRepeat (e : List ℕ) (p n : ℕ) : Type 0 where
  pub none : (j : ℕ) → j < n → is_repeat e (p + j) ≡ false
