-- What is open around the innermost container, which starts at `start` of the stack and has height h: the entry that opened it keeps
-- the start, the height and the items of the container around it (decisions 231 and 232).
use Rattle.std.specs.Prelude.{ℕ, ◌-◌, ◌*◌, ◌≤◌, ◌<◌, ◌≡◌, List, [], ◌∷◌}
use Rattle.sheet.specs.Records.{aperture_of}
use Rattle.sheet.specs.declared.Entry.{Entry}
use Rattle.graphics.specs.declared.Level.{Level}
use Rattle.law_open_store.specs.Open.{opener}
use Rattle.law_reading.specs.State.{Opened, block, repeat}
use Rattle.law_reading.specs.Apertures.{open_block}
use Rattle.progress.specs.Levels.{level_at, Counted}

-- a block, of an aperture record below `limit` that is open; l is the level around it
pub record InBlock (a : List ℕ) (limit n : ℕ) (l : Level) (o : Entry) (start h depth copies sheet : ℕ) : Type 0 where
  pub low : 1 ≤ h
  pub lower : h ≤ 8
  pub some : 1 ≤ depth
  pub below : o.sx < start
  pub early : o.who < limit
  pub number : (aperture_of a o.who).number ≡ n
  pub is_open_lem : (aperture_of a o.who).kind ≡ open_block
  pub level : level_at o.sy o.before (depth - 1) copies sheet ≡ l
  pub counts : Counted l

-- a repeat, which stands at the top level
pub record InRepeat (l : Level) (o : Entry) (start h depth copies sheet : ℕ) : Type 0 where
  pub nine : h ≡ 9
  pub none : depth ≡ 0
  pub some : 1 ≤ start
  pub first : o.who ≡ 0
  pub copies_are : o.sx * o.sy ≡ copies
  pub sheet_is : o.before ≡ sheet
  pub level : level_at 10 o.before 0 1 0 ≡ l
  pub counts : Counted l

unfoldable pub Around : List ℕ → List ℕ → ℕ → ℕ → List Opened → ℕ → ℕ → ℕ → ℕ → ℕ → Type 0
Around e a room limit [] start h depth copies sheet = (start ≡ 0) × (h ≡ 10) × (depth ≡ 0)
Around e a room limit (block n l ∷ os) start h depth copies sheet =
    InBlock a limit n l (opener e room start) start h depth copies sheet
    × Around e a room (opener e room start).who os (opener e room start).sx (opener e room start).sy (depth - 1) copies sheet
Around e a room limit (repeat l ∷ os) start h depth copies sheet =
    InRepeat l (opener e room start) start h depth copies sheet × Around e a room limit os 0 10 0 1 0
