-- Entries on the stack: one more, and a container's put in reverse after the closed ones.
use Rattle.std.specs.Prelude.{ℕ, suc, ◌+◌, ◌-◌, ◌*◌, ◌≤◌, ◌<◌, ◌≡◌, Bool, List, ltb, length}
use Rattle.sheet.specs.Records.{entry_width, entry_of, entry_room, entry_words, stored}
use Rattle.sheet.specs.declared.Entry.{Entry}

-- room for an entry more, where some are closed and `high` lie on the stack (01, 17: "room used up")
unfoldable pub has_room : List ℕ → ℕ → ℕ → Bool
has_room e closed high = ltb (closed + high) (entry_room e)

-- the stack grows down from the last record
unfoldable pub pushed : List ℕ → ℕ → Entry → List ℕ
pushed e high r = stored e ((entry_room e - suc high) * entry_width) (entry_words r)

-- the n entries before record hi lie from record lo on, the last first, and what lay there is where they were
pub record Turned (e e' : List ℕ) (lo hi n : ℕ) : Type 0 where
  pub as_long : length e' ≡ length e
  pub below : (p : ℕ) → p < lo → entry_of e' p ≡ entry_of e p
  pub above : (p : ℕ) → hi ≤ p → entry_of e' p ≡ entry_of e p
  pub turned : (i : ℕ) → i < n → entry_of e' (lo + i) ≡ entry_of e (hi - suc i)
  pub left : (i : ℕ) → i < n → lo + n < hi - i → entry_of e' (hi - suc i) ≡ entry_of e (lo + i)
  pub between : (p : ℕ) → lo + n ≤ p → p + n < hi → entry_of e' p ≡ entry_of e p
