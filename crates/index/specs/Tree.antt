-- A search tree in the last two of a record's words. For a key that is sought, a record leads on low or high, by the key's
-- lowest bit; from there the bits above it are the key. A link of 0 leads nowhere, since every search begins at record 0 (decision 209).
use Rattle.std.specs.Prelude.{ℕ, zero, suc, ◌+◌, ◌*◌, ◌/◌, ◌%◌, Bool, true, false, cond, List, eqb, get_or, set}

-- the words of a record
abbrev pub record_width : ℕ
record_width = 8

abbrev pub is_high : ℕ → Bool
is_high key = eqb (key % 2) 1

abbrev pub bits_above : ℕ → ℕ
bits_above key = key / 2

-- the word of record i that leads on high, or low
unfoldable pub link_word : ℕ → Bool → ℕ
link_word i high = i * record_width + cond high 7 6

abbrev pub link_of : ℕ → ℕ → ℕ
link_of i key = link_word i (is_high key)

-- the record that it leads to
abbrev pub next : List ℕ → ℕ → ℕ → ℕ
next s i key = get_or s (link_of i key) 0

-- the link at which the search from record i ends, of n steps at most
unfoldable pub last_link : List ℕ → ℕ → ℕ → ℕ → ℕ
last_link s zero i key = link_of i key
last_link s (suc n) i key =
    elim (eqb (next s i key) 0) [ true ↦ link_of i key | false ↦ last_link s n (next s i key) (bits_above key) ]

-- the search for the key ends at record `new`, after all before it
abbrev pub linked : List ℕ → ℕ → ℕ → List ℕ
linked s new key = set s (last_link s new 0 key) new
