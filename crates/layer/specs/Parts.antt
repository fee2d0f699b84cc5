-- The parts of a component layer: the items of its plain expansion, each with its role and its texts (02, [4]: "The list is over plain expanded
-- items"; decisions 581 and 582).
use Rattle.std.specs.Prelude.{ℕ, List, map}
use Rattle.book.specs.declared.Book.{Book}
use Rattle.place.specs.declared.Item.{Item}
use Rattle.law_components.specs.Parts.{Part, part_of}
use Rattle.layer.specs.Attributes.{texts_at, function_of}

unfoldable pub parts_of : Book → List ℕ → List Item → List Part
parts_of book file ts = map (part_of (function_of book file) (texts_at book file)) ts
