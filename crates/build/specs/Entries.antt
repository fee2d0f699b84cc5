-- The entries that marks leave (docs/SHEET.md); `before` is the items of the container so far.
use Rattle.std.specs.Prelude.{ℕ}
use Rattle.std.specs.Int.{w64}
use Rattle.std.proofs.Common.{of_z}
use Rattle.place.specs.declared.Item.{Item}
use Rattle.place.specs.declared.Pose.{Pose}
use Rattle.place.specs.declared.Repeat.{Repeat}
use Rattle.sheet.specs.Meaning.{flag_word}
use Rattle.sheet.specs.declared.Entry.{Entry}

unfoldable pub item_entry : ℕ → Item → Entry
item_entry before t = record {
  kind = t.kind;
  before = before;
  who = t.aperture;
  clear = flag_word t.clear;
  flip = flag_word t.flip;
  angle = t.angle;
  scale = t.scale;
  sx = of_z w64 t.start.x;
  sy = of_z w64 t.start.y;
  ex = of_z w64 t.end.x;
  ey = of_z w64 t.end.y;
  cx = of_z w64 t.centre.x;
  cy = of_z w64 t.centre.y;
  count = t.count;
  place = t.place;
}

unfoldable pub use_entry : ℕ → ℕ → Pose → ℕ → Entry
use_entry before who m place = record {
  kind = 9;
  before = before;
  who = who;
  clear = flag_word m.clear;
  flip = flag_word m.flip;
  angle = m.angle;
  scale = 0;
  sx = 0;
  sy = 0;
  ex = of_z w64 m.at.x;
  ey = of_z w64 m.at.y;
  cx = 0;
  cy = 0;
  count = 0;
  place = place;
}

-- until the block closes, the start and the height of the container around it are kept here (decision 232)
unfoldable pub block_entry : ℕ → ℕ → ℕ → ℕ → ℕ → Entry
block_entry before who start height place = record {
  kind = 11;
  before = before;
  who = who;
  clear = 0;
  flip = 0;
  angle = 0;
  scale = 0;
  sx = start;
  sy = height;
  ex = 0;
  ey = 0;
  cx = 0;
  cy = 0;
  count = 0;
  place = place;
}

unfoldable pub repeat_entry : ℕ → ℕ → Repeat → ℕ → Entry
repeat_entry before start s place = record {
  kind = 10;
  before = before;
  who = start;
  clear = 0;
  flip = 0;
  angle = 0;
  scale = 0;
  sx = s.nx;
  sy = s.ny;
  ex = 0;
  ey = 0;
  cx = s.dx;
  cy = s.dy;
  count = 0;
  place = place;
}
