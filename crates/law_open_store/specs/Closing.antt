-- What closing a container leaves: its entries after those of the closed ones, in order, and its opening entry as the sheet keeps it.
use Rattle.std.specs.Prelude.{ℕ, suc, ◌+◌, ◌-◌, ◌<◌, ◌≡◌, List}
use Rattle.sheet.specs.Records.{entry_of, entry_room}
use Rattle.sheet.specs.declared.Entry.{Entry}

-- the entries from `start` on then lie after the closed ones; what is closed, and the stack below, stay
pub record Settled (e e' : List ℕ) (room closed start high : ℕ) : Type 0 where
  pub as_long : entry_room e' ≡ entry_room e
  pub same_closed : (i : ℕ) → i < closed → entry_of e i ≡ entry_of e' i
  pub same_stack : (p : ℕ) → suc p < start → entry_of e (room - suc p) ≡ entry_of e' (room - suc p)
  pub settled : (i : ℕ) → i < high - start → entry_of e (room - suc (start + i)) ≡ entry_of e' (closed + i)

-- the opening entry of a block keeps nothing of what was around it
unfoldable pub defines : Entry → Entry
defines o = record {
  kind = 11;
  before = o.before;
  who = o.who;
  clear = 0;
  flip = 0;
  angle = 0;
  scale = 0;
  sx = 0;
  sy = 0;
  ex = 0;
  ey = 0;
  cx = 0;
  cy = 0;
  count = 0;
  place = o.place;
}

-- that of a repeat says where its body lies: len entries from `first` on, with t items
unfoldable pub repeats : Entry → ℕ → ℕ → ℕ → Entry
repeats o first len t = record {
  kind = 10;
  before = o.before;
  who = first;
  clear = 0;
  flip = 0;
  angle = 0;
  scale = len;
  sx = o.sx;
  sy = o.sy;
  ex = 0;
  ey = 0;
  cx = o.cx;
  cy = o.cy;
  count = t;
  place = o.place;
}
