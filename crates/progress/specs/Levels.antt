-- What stands open innermost, by the height of the container that is built: the top level has 10, the body of a repeat 9, a block 1
-- to 8 (docs/SHEET.md).
use Rattle.std.specs.Prelude.{ℕ, ◌≤◌, cond, eqb, leb}
use Rattle.graphics.specs.Level.{top_level, block, repeat}
use Rattle.graphics.specs.declared.Level.{Level}
use Rattle.operation_rules.specs.Counts.{most, counted}
use Rattle.progress.specs.declared.Progress.{Progress}

-- a container of height h with so many items, where so many blocks are open; copies and sheet are those of the open repeat
unfoldable pub level_at : ℕ → ℕ → ℕ → ℕ → ℕ → Level
level_at h items depth copies sheet = record {
  inside = cond (leb h 8) block (cond (eqb h 9) repeat top_level);
  items = items;
  height = cond (leb h 8) h 0;
  depth = depth;
  copies = cond (eqb h 9) copies 1;
  sheet = cond (eqb h 9) sheet 0;
}

unfoldable pub level_of : Progress → Level
level_of p = level_at p.builder.height p.builder.items p.depth p.copies p.sheet

-- the count rule holds (01, number 16)
pub record Counted (l : Level) : Type 0 where
  pub within : counted l 0 ≤ most
  pub before : l.sheet ≤ most
  pub some : 1 ≤ l.copies
