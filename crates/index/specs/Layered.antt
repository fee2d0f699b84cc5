-- How far links lead. A record has a depth: how many links lead to it from record 0. It agrees with the record that leads to it in as many
-- of the lowest bits of their keys as that one is deep, and the next bit is the one by which it is led to. So a search for a key of
-- n bits follows at most n links.
use Rattle.std.specs.Prelude.{ℕ, zero, suc, ◌<◌, ◌≡◌, List}
use Rattle.index.specs.Tree.{is_high, bits_above, next}

-- two keys are the same in their d lowest bits
pub data Alike : ℕ → ℕ → ℕ → Type 0 where
  nothing : {a b : ℕ} → Alike zero a b
  bit : {d a b : ℕ} → is_high a ≡ is_high b → Alike d (bits_above a) (bits_above b) → Alike (suc d) a b

-- a key without its d lowest bits
unfoldable pub above : ℕ → ℕ → ℕ
above zero key = key
above (suc d) key = above d (bits_above key)

pub record Layered (s : List ℕ) (key_of : ℕ → ℕ) (used : ℕ) : Type 0 where
  pub depth : ℕ → ℕ
  pub root : depth 0 ≡ 0
  pub deeper : (i key : ℕ) → i < used → 0 < next s i key → depth (next s i key) ≡ suc (depth i)
  pub alike : (i key : ℕ) → i < used → 0 < next s i key → Alike (depth i) (key_of (next s i key)) (key_of i)
  pub side : (i key : ℕ) → i < used → 0 < next s i key → is_high (above (depth i) (key_of (next s i key))) ≡ is_high key
