-- A chain of items' numbers as it is walked: each link leads to a record of the room, and on to one before it; each number is an item's.
use Rattle.std.specs.Prelude.{ℕ, suc, ◌+◌, ◌*◌, ◌≤◌, ◌<◌, ◌≡◌, List, [], ◌∷◌, length, get_or}
use Rattle.law_components.specs.Chain.{link_width}

pub data Walks (pins : List ℕ) (total : ℕ) : ℕ → List ℕ → Type 0 where
  end : Walks pins total 0 []
  on : {j k link : ℕ} {ks : List ℕ} → j * link_width + 1 < length pins → link ≤ j → get_or pins (j * link_width) 0 ≡ k → k < total →
      get_or pins (j * link_width + 1) 0 ≡ link → Walks pins total link ks → Walks pins total (suc j) (k ∷ ks)

pub record Walking (pins : List ℕ) (total link : ℕ) : Type 0 where
  pub numbers : List ℕ
  pub walks : Walks pins total link numbers
