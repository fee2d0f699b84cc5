-- Numbers of items kept as chains in a lent room, in records of two words: an item's number, and the link to the record after it. A link is
-- one more than the number of its record, which was put in before; 0 ends the chain.
use Rattle.std.specs.Prelude.{ℕ, suc, ◌+◌, ◌*◌, ◌≤◌, ◌<◌, ◌≡◌, List, [], ◌∷◌, get_or}

-- the words of a record
abbrev pub link_width : ℕ
link_width = 2

-- from this link on, among the first `used` records, the numbers are these
pub data Chain (s : List ℕ) (used : ℕ) : ℕ → List ℕ → Type 0 where
  end : Chain s used 0 []
  on : {j k link : ℕ} {ks : List ℕ} → j < used → link ≤ j → get_or s (j * link_width) 0 ≡ k → get_or s (j * link_width + 1) 0 ≡ link → Chain s used link ks →
      Chain s used (suc j) (k ∷ ks)
