-- The addresses of what marks put on a sheet, in the order of the items (02, request [12]; decisions 331, 332, 441).
use Rattle.std.specs.Prelude.{ℕ, zero, suc, ◌+◌, ◌*◌, List, [], ◌∷◌, ◌++◌, map}
use Rattle.base.specs.Run.{run}
use Rattle.place.specs.Parts.{Parts, none, item, flashed, repeated}
use Rattle.place.specs.Mark.{Mark, parts_from}

-- "the chain of positions from the top level through the blocks down to the item, with the copy number where the top position lies in an SR"
pub record Address : Type 0 where
  pub copy : ℕ
  pub chain : List ℕ

-- of an item of the block that is flashed at position p
unfoldable pub under : ℕ → Address → Address
under p w = record { copy = 0; chain = p ∷ w.chain }

-- of an item of a repeat's body, in its copy n
unfoldable pub in_copy : ℕ → Address → Address
in_copy n w = record { copy = n; chain = w.chain }

-- an item and a flash, of an empty block too, stand at one position each; a repeat at those of its body, which is written once
unfoldable pub positions : Parts → ℕ
positions none = 0
positions (item t ps) = suc (positions ps)
positions (flashed place m b ps) = suc (positions ps)
positions (repeated r b ps) = positions b + positions ps

-- of the items of parts that stand from position p on. Positions count from 1 in each block; copies from 1, as they are put out
unfoldable pub addresses_in : ℕ → Parts → List Address
addresses_in p none = []
addresses_in p (item t ps) = record { copy = 0; chain = p ∷ [] } ∷ addresses_in (suc p) ps
addresses_in p (flashed place m b ps) = map (under p) (addresses_in 1 b) ++ addresses_in (suc p) ps
addresses_in p (repeated r b ps) = run (λ n. map (in_copy n) (addresses_in p b)) 1 (r.nx * r.ny) ++ addresses_in (positions b + p) ps

-- n words of a chain: "what goes unused is 0"
unfoldable pub padded : ℕ → List ℕ → List ℕ
padded zero c = []
padded (suc n) [] = 0 ∷ padded n []
padded (suc n) (p ∷ c) = p ∷ padded n c

-- ten words: the copy, and nine positions
unfoldable pub words_of : Address → List ℕ
words_of w = w.copy ∷ padded 9 w.chain

-- of all that stands on a sheet, from position 1 on
unfoldable pub part_addresses : Parts → List (List ℕ)
part_addresses ps = map words_of (addresses_in 1 ps)

unfoldable pub addresses_of : List Mark → List (List ℕ)
addresses_of ms = part_addresses (parts_from ms)
