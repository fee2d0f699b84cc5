-- What a store holds, part by part.
use Rattle.std.specs.Prelude.{ℕ, zero, suc, List}
use Rattle.place.specs.Parts.{Parts, none, item, flashed, repeated, pieces}
use Rattle.sheet.specs.Records.{entry_of, role_of}
use Rattle.sheet.specs.Containers.{block_of, body_of, top_of}
use Rattle.sheet.specs.Meaning.{drawn, pose_of, repeat_of}
use Rattle.sheet.specs.declared.Entry.{Entry}
use Rattle.sheet.specs.declared.Container.{Container}
use Rattle.sheet.specs.declared.Role.{Role}
use Rattle.sheet.specs.declared.Role.TheVariants.{Draws, Uses, Repeats, Defines, Unknown}

-- the part that an entry is, where `below k` are those of the container k
unfoldable pub part_as : Role → List ℕ → (Container → Parts) → Entry → Parts
part_as Draws a below r = item (drawn r) none
part_as Uses a below r = flashed r.place (pose_of r) (below (block_of a r.who)) none
part_as Repeats a below r = repeated (repeat_of r) (below (body_of r)) none
part_as Defines a below r = none
part_as Unknown a below r = none

unfoldable pub part_of : List ℕ → (Container → Parts) → Entry → Parts
part_of a below r = part_as (role_of r.kind) a below r

-- the parts of a container, whose blocks nest below h deep
unfoldable pub parts : List ℕ → List ℕ → ℕ → Container → Parts
parts e a zero k = none
parts e a (suc h) k = pieces (λ i. part_of a (parts e a h) (entry_of e i)) k.first k.len

unfoldable pub sheet_parts : List ℕ → List ℕ → List ℕ → Parts
sheet_parts head e a = parts e a 10 (top_of head)
