-- A container while it is built: its entries are given by a function of their places in it, wherever in the room they lie.
use Rattle.std.specs.Prelude.{ℕ, suc, ◌+◌, ◌-◌, ◌<◌, ◌≡◌, true, List}
use Rattle.base.specs.Run.{sums}
use Rattle.place.specs.Parts.{Parts, pieces}
use Rattle.sheet.specs.Records.{entry_of}
use Rattle.sheet.specs.Valid.{ok_entry, size_of}
use Rattle.sheet.specs.declared.Entry.{Entry}
use Rattle.sheet.specs.declared.Container.{Container}
use Rattle.sheet.specs.Parts.{part_of}

-- the parts that an open container's first n entries are
unfoldable pub open_parts : List ℕ → (Container → Parts) → (ℕ → Entry) → ℕ → Parts
open_parts a below f n = pieces (λ i. part_of a below (f i)) 0 n

-- its first n entries are in order, in a container of height h, and put out t items
pub record OpenOk (a : List ℕ) (used h : ℕ) (f : ℕ → Entry) (n t : ℕ) : Type 0 where
  pub each_ok : (i : ℕ) → i < n → ok_entry a used h (f i) ≡ true
  pub before_is : (i : ℕ) → i < n → (f i).before ≡ sums (λ i. size_of a (f i)) 0 i
  pub items_are : sums (λ i. size_of a (f i)) 0 n ≡ t

-- while it is open, entry i of the stack lies at record room - 1 - i; a container that begins at entry s of the stack has these
abbrev pub stacked : List ℕ → ℕ → ℕ → ℕ → Entry
stacked e room s i = entry_of e (room - suc (s + i))
