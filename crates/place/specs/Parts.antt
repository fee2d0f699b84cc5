-- What stands on a sheet, part by part, and the items that it puts out (01, Items; decisions 102 to 105, 440).
use Rattle.std.specs.Prelude.{ℕ, zero, suc, ◌+◌, List, [], ◌∷◌, ◌++◌, map}
use Rattle.place.specs.Outer.{flashed_by}
use Rattle.place.specs.Copies.{copies}
use Rattle.place.specs.declared.Item.{Item}
use Rattle.place.specs.declared.Pose.{Pose}
use Rattle.place.specs.declared.Repeat.{Repeat}

-- the parts of the sheet, of a block or of a repeat's body, each with those that follow it: an item; the flash of a block by the command
-- at a place, in a pose, with the parts of the block; a repeat, with those of its body
pub data Parts : Type 0 where
  none : Parts
  item : Item → Parts → Parts
  flashed : ℕ → Pose → Parts → Parts → Parts
  repeated : Repeat → Parts → Parts → Parts

infixr 40 ◌then◌
unfoldable pub ◌then◌ : Parts → Parts → Parts
none then qs = qs
item t ps then qs = item t (ps then qs)
flashed place m b ps then qs = flashed place m b (ps then qs)
repeated r b ps then qs = repeated r b (ps then qs)

-- every repeat and nested block written out
unfoldable pub items_in : Parts → List Item
items_in none = []
items_in (item t ps) = t ∷ items_in ps
items_in (flashed place m b ps) = map (flashed_by place m) (items_in b) ++ items_in ps
items_in (repeated r b ps) = copies r (items_in b) ++ items_in ps

-- f p, then f (p + 1), and so on: n pieces
unfoldable pub pieces : (ℕ → Parts) → ℕ → ℕ → Parts
pieces f p zero = none
pieces f p (suc n) = f p then pieces f (suc p) n
