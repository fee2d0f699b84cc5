-- How an item's address begins: with a position of the top level, or with a copy of a body (02, request [12]; decisions 331, 332).
use Rattle.std.specs.Prelude.{ℕ, ◌+◌, ◌≤◌, ◌<◌, ◌≡◌, true, List, [], ◌∷◌, length, get_or, replicate}
use Rattle.sheet.specs.Records.{entry_room}
use Rattle.sheet.specs.Containers.{top_of}
use Rattle.sheet.specs.Valid.{valid}
use Rattle.sheet.specs.declared.Container.{Container}
use Rattle.descend.specs.Search.{Held}
use Rattle.law_addresses.specs.Chains.{chains}
use Rattle.law_addresses.specs.Addresses.{raised, sheet_addresses}
use Rattle.address.specs.declared.Start.{Start}
use Rattle.address.specs.declared.Start.TheVariants.{Alone, Flash, Copy}

-- the sheet has an item n
pub record Asked (head e a : List ℕ) (n : ℕ) : Type 0 where
  pub ok : valid head e a ≡ true
  pub inside : n < (top_of head).items

-- item n lies in the block u that is flashed at position p, as its item j
pub record InFlash (head e a : List ℕ) (n p : ℕ) (u : Container) (j : ℕ) : Type 0 where
  pub held : Held e a u j
  pub low : u.height ≤ 8
  pub is : get_or (sheet_addresses head e a) n [] ≡ 0 ∷ p ∷ get_or (chains e a 8 u) j []

-- in a copy of the body u, which stands after b positions
pub record InCopy (head e a : List ℕ) (n copy b : ℕ) (u : Container) (j : ℕ) : Type 0 where
  pub held : Held e a u j
  pub low : u.height ≤ 9
  pub is : get_or (sheet_addresses head e a) n [] ≡ copy ∷ raised b (get_or (chains e a 9 u) j [])
  pub some : 1 ≤ length (get_or (chains e a 9 u) j [])
  pub fits : b + get_or (get_or (chains e a 9 u) j []) 0 0 ≤ entry_room e + entry_room e

abbrev pub Starts : List ℕ → List ℕ → List ℕ → ℕ → Start → Type 0
Starts head e a n (Alone p) = get_or (sheet_addresses head e a) n [] ≡ 0 ∷ p ∷ replicate 8 0
Starts head e a n (Flash p u j) = InFlash head e a n p u j
Starts head e a n (Copy copy b u j) = InCopy head e a n copy b u j
