-- An item's chain of positions, written word by word on the way down.
use Rattle.std.specs.Prelude.{ℕ, suc, ◌≤◌, ◌<◌, ◌≡◌, List, [], ◌∷◌, length, get_or, replicate}
use Rattle.sheet.specs.declared.Container.{Container}
use Rattle.descend.specs.Search.{Held}
use Rattle.law_addresses.specs.Chains.{chains}
use Rattle.address.specs.declared.Stand.{Stand}
use Rattle.address.specs.declared.Stand.TheVariants.{Here, Below}

-- item n of the container k is drawn at position p
pub record Drawn (e a : List ℕ) (k : Container) (n p : ℕ) : Type 0 where
  pub is : (h : ℕ) → k.height ≤ suc h → get_or (chains e a (suc h) k) n [] ≡ p ∷ replicate h 0

-- it is item j of the block u, which is flashed there
pub record Flashed (e a : List ℕ) (k : Container) (n p : ℕ) (u : Container) (j : ℕ) : Type 0 where
  pub held : Held e a u j
  pub low : u.height ≤ 9
  pub under : u.height < k.height
  pub is : (h : ℕ) → k.height ≤ suc h → get_or (chains e a (suc h) k) n [] ≡ p ∷ get_or (chains e a h u) j []

abbrev pub Steps : List ℕ → List ℕ → Container → ℕ → Stand → Type 0
Steps e a k n (Here p) = Drawn e a k n p
Steps e a k n (Below p u j) = Flashed e a k n p u j

-- the chain of item n of k is written into words that are all 0
pub record Writes (e a : List ℕ) (k : Container) (n : ℕ) (out : List ℕ) : Type 0 where
  pub held : Held e a k n
  pub low : k.height ≤ 9
  pub high : k.height ≤ length out
  pub zeros : out ≡ replicate (length out) 0
