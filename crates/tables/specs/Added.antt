-- A record more in a table (docs/SHEET.md), found from then on by its number or its name (decision 209).
use Rattle.std.specs.Prelude.{ℕ, ◌*◌, ◌/◌, Bool, cond, List, ltb, length, set}
use Rattle.index.specs.Tree.{record_width}
use Rattle.sheet.specs.Records.{stored}

-- room for a whole record after those in use (01, 17: "room used up")
unfoldable pub has_room : List ℕ → ℕ → Bool
has_room s used = ltb used (length s / record_width)

-- its words after those in use, and the link at which the search for it ended leads to it; without room nothing changes.
-- For the first record that link is one of its own, and stays 0.
unfoldable pub added : List ℕ → ℕ → ℕ → List ℕ → List ℕ
added s used link w = cond (has_room s used) (set (stored s (used * record_width) w) link used) s
