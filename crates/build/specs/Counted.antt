-- An edge more of a contour: it is counted, and put.
use Rattle.std.specs.Prelude.{ℕ, suc, ◌+◌, ◌-◌, ◌*◌, List}
use Rattle.place.specs.declared.Item.{Item}
use Rattle.sheet.specs.Records.{entry_width, entry_of, entry_room, entry_words, stored}
use Rattle.sheet.specs.declared.Entry.{Entry}
use Rattle.build.specs.Stack.{pushed}
use Rattle.build.specs.declared.Builder.{Builder}
use Rattle.build.specs.Entries.{item_entry}

unfoldable pub counted : Entry → Entry
counted r = record {
  kind = r.kind;
  before = r.before;
  who = r.who;
  clear = r.clear;
  flip = r.flip;
  angle = r.angle;
  scale = r.scale;
  sx = r.sx;
  sy = r.sy;
  ex = r.ex;
  ey = r.ey;
  cx = r.cx;
  cy = r.cy;
  count = r.count + 1;
  place = r.place;
}

-- the contour at place c of the stack counts one more
unfoldable pub counted_at : List ℕ → ℕ → List ℕ
counted_at e c = stored e ((entry_room e - suc c) * entry_width) (entry_words (counted (entry_of e (entry_room e - suc c))))

unfoldable pub edged : List ℕ → Builder → ℕ → Item → List ℕ
edged e b c t = pushed (counted_at e c) b.high (item_entry b.items t)
