-- What stands open, and what it counts (01, State: "Block height is 1, or one more than the tallest block flashed in it"; decision 99).
use Rattle.std.specs.Prelude.{ℕ, ◌+◌, ◌*◌, cond, eqb, ltb}
use Rattle.graphics.specs.Level.{block, repeat}
use Rattle.graphics.specs.declared.Level.{Level}

-- the higher of two; what is open but no block has no height
unfoldable pub higher : ℕ → ℕ → ℕ
higher h k = cond (ltb h k) k h

unfoldable pub raised_to : ℕ → Level → ℕ
raised_to h l = cond (eqb l.inside block) (higher l.height h) l.height

-- with so many items more, and as a block with a height of h at least
unfoldable pub with_items : ℕ → ℕ → Level → Level
with_items n h l = record {
  inside = l.inside;
  items = l.items + n;
  height = raised_to h l;
  depth = l.depth;
  copies = l.copies;
  sheet = l.sheet;
}

unfoldable pub in_block : Level → Level
in_block l = record { inside = block; items = 0; height = 1; depth = l.depth + 1; copies = 1; sheet = 0 }

-- SR stands at the top level only, whose items are the sheet's so far
unfoldable pub in_repeat : ℕ → ℕ → Level → Level
in_repeat nx ny l = record { inside = repeat; items = 0; height = 0; depth = l.depth; copies = nx * ny; sheet = l.items }
