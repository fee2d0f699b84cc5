-- When the links of the records in use are a search tree for their keys.
use Rattle.std.specs.Prelude.{ℕ, ◌*◌, ◌≤◌, ◌<◌, List, length}
use Rattle.index.specs.Tree.{record_width, next, bits_above}

-- the search for a key comes from record i to record j
pub data Leads (s : List ℕ) : ℕ → ℕ → ℕ → Type 0 where
  here : {key i : ℕ} → Leads s key i i
  on : {key i j : ℕ} → 0 < next s i key → Leads s (bits_above key) (next s i key) j → Leads s key i j

-- a link leads to a later record, and the search for a record's key reaches it
pub record Indexed (s : List ℕ) (key_of : ℕ → ℕ) (used : ℕ) : Type 0 where
  pub inside : used * record_width ≤ length s
  pub later : (i key : ℕ) → i < used → 0 < next s i key → (i < next s i key) × (next s i key < used)
  pub found : (j : ℕ) → j < used → Leads s (key_of j) 0 j
