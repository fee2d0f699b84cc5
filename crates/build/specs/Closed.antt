-- The outcome of closing the innermost container.
use Rattle.std.specs.Prelude.{ℕ, suc, ◌+◌, ◌-◌, ◌*◌, ◌≤◌, ◌<◌, ◌≡◌, List, [], ◌∷◌, length, get_or}
use Rattle.sheet.specs.Valid.{sheet_mark}
use Rattle.sheet.specs.Records.{entry_width, aperture_width, entry_of, entry_room, stored}
use Rattle.sheet.specs.declared.Entry.{Entry}
use Rattle.law_open_store.specs.Open.{opener}
use Rattle.law_open_store.specs.Closing.{Settled, defines, repeats}
use Rattle.build.specs.declared.Builder.{Builder}

-- there is a container to close, and all lies in the room
pub record Closes (e : List ℕ) (b : Builder) : Type 0 where
  pub some : 1 ≤ b.start
  pub below : b.start ≤ b.high
  pub fits : b.closed + b.high ≤ entry_room e

-- its entries lie after the closed ones, and r stands for its opening entry
pub record Left (e e' : List ℕ) (b : Builder) (r : Entry) : Type 0 where
  pub moved : Settled e e' (entry_room e) b.closed b.start b.high
  pub left : entry_of e' (entry_room e - b.start) ≡ r

pub record BlockClosed (e e' a a' : List ℕ) (b r : Builder) : Type 0 where
  pub leaves : Left e e' b (defines (opener e (entry_room e) b.start))
  pub stores : a' ≡ stored a ((opener e (entry_room e) b.start).who * aperture_width + 1) (6 ∷ b.closed ∷ (b.high - b.start) ∷ b.items ∷ b.height ∷ [])
  pub next : r ≡ record {
    closed = b.closed + (b.high - b.start);
    high = b.start;
    start = (opener e (entry_room e) b.start).sx;
    height = (opener e (entry_room e) b.start).sy;
    items = (opener e (entry_room e) b.start).before;
  }

pub record RepeatClosed (e e' : List ℕ) (b : Builder) (copies : ℕ) (r : Builder) : Type 0 where
  pub leaves : Left e e' b (repeats (opener e (entry_room e) b.start) b.closed (b.high - b.start) b.items)
  pub next : r ≡ record {
    closed = b.closed + (b.high - b.start);
    high = b.start;
    start = (opener e (entry_room e) b.start).who;
    height = 10;
    items = (opener e (entry_room e) b.start).before + copies * b.items;
  }

-- the top level lies after what is closed, and 0 after it (01: "Unused room is zero afterwards")
pub record Ended (e e' : List ℕ) (b : Builder) : Type 0 where
  pub as_long : length e' ≡ length e
  pub same_closed : (i : ℕ) → i < b.closed → entry_of e i ≡ entry_of e' i
  pub settled : (i : ℕ) → i < b.high → entry_of e (entry_room e - suc i) ≡ entry_of e' (b.closed + i)
  pub zeros : (w : ℕ) → (b.closed + b.high) * entry_width ≤ w → get_or e' w 0 ≡ 0

-- the head (docs/SHEET.md)
unfoldable pub head_of : ℕ → Builder → ℕ → ℕ → ℕ → List ℕ
head_of unit b apertures macros numbers = sheet_mark ∷ unit ∷ (b.closed + b.high) ∷ apertures ∷ macros ∷ numbers ∷ b.high ∷ b.items ∷ []
