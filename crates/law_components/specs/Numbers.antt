-- The pins of a designator by the numbers of their items: code keeps these as chains in a lent room.
use Rattle.std.specs.Prelude.{ℕ, suc, Bool, true, false, List, [], ◌∷◌, ◌++◌}
use Rattle.base.specs.And.{◌and◌}
use Rattle.base.specs.Bytes.{same_bytes}
use Rattle.law_components.specs.Parts.{Part, is_pin, designator}
use Rattle.law_components.specs.Outlines.{at}
use Rattle.law_components.specs.Records.{pin_record}

-- the numbers, counted from k on, of the items that pass a test
unfoldable pub numbers_from : (Part → Bool) → ℕ → List Part → List ℕ
numbers_from test k [] = []
numbers_from test k (p ∷ ps) = elim (test p) [ true ↦ k ∷ numbers_from test (suc k) ps | false ↦ numbers_from test (suc k) ps ]

unfoldable pub a_pin_of : List ℕ → Part → Bool
a_pin_of d p = is_pin p.role and same_bytes (designator p) d

-- what each of these numbers puts out
unfoldable pub by_number : (ℕ → List ℕ) → List ℕ → List ℕ
by_number f [] = []
by_number f (k ∷ ks) = f k ++ by_number f ks

unfoldable pub pins_by : List Part → List ℕ → List ℕ
pins_by ps d = by_number (λ k. pin_record (at ps k)) (numbers_from (a_pin_of d) 0 ps)
