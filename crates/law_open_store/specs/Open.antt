-- What holds while a store is built. Closed containers lie one after the other from record 0 on; the entries of open ones lie on a
-- stack that grows down from the last record, the top level's first. A container that opens leaves an entry on the stack, which keeps
-- where the container around it starts, its height and its items so far until it closes (decision 231).
use Rattle.std.specs.Prelude.{ℕ, suc, ◌+◌, ◌-◌, ◌≤◌, ◌<◌, ◌≡◌, true, false, List}
use Rattle.base.specs.Run.{sums}
use Rattle.place.specs.Parts.{Parts}
use Rattle.place.specs.declared.Repeat.{Repeat}
use Rattle.place.specs.Mark.{Around, top, within, block, repeat, Sheet, parts_of}
use Rattle.sheet.specs.Records.{entry_of, aperture_of, role_of, entry_room}
use Rattle.sheet.specs.Containers.{block_of, body_of}
use Rattle.sheet.specs.Meaning.{repeat_of}
use Rattle.sheet.specs.Valid.{most, is_block, ok_counts, ok_container, ok_block, block_length, body_length}
use Rattle.sheet.specs.declared.Entry.{Entry}
use Rattle.sheet.specs.declared.Role.TheVariants.{Repeats}
use Rattle.sheet.specs.Open.{OpenOk, open_parts, stacked}
use Rattle.sheet.specs.Parts.{parts}

-- the entries of one open container, from `start` on, are its parts so far
pub record Level (e a : List ℕ) (room n start len h t : ℕ) (ps : Parts) : Type 0 where
  pub ok : OpenOk a n h (stacked e room start) len t
  pub shows : open_parts a (parts e a 9) (stacked e room start) len ≡ ps

-- the entry that opened the container which starts at `start`
abbrev pub opener : List ℕ → ℕ → ℕ → Entry
opener e room start = entry_of e (room - start)

-- the top level; `bodies` entries are those of its repeats
pub record AtTop (e a : List ℕ) (room n closed : ℕ) (here : Parts) (high start h t bodies : ℕ) : Type 0 where
  pub starts : start ≡ 0
  pub height : h ≡ 10
  pub level : Level e a room n 0 high 10 t here
  pub bodies_ok : (p : ℕ) → p < high → role_of (entry_of e (room - suc p)).kind ≡ Repeats → ok_container e a closed n (body_of (entry_of e (room - suc p))) ≡ true
  pub lengths : sums (λ p. body_length e (room - suc p)) 0 high ≡ bodies

-- a block with number m, of an aperture record below `limit`, opened by the entry o
pub record InBlock (e a : List ℕ) (room n limit m : ℕ) (o : Entry) (here : Parts) (high start h t : ℕ) : Type 0 where
  pub some : 1 ≤ start
  pub below : start ≤ high
  pub low : 1 ≤ h
  pub lower : h ≤ 8
  pub level : Level e a room n start (high - start) h t here
  pub early : o.who < limit
  pub known : o.who < n
  pub number : (aperture_of a o.who).number ≡ m
  pub not_yet : is_block a o.who ≡ false

-- the body of a repeat, opened by the entry o
pub record InRepeat (e a : List ℕ) (room n : ℕ) (r : Repeat) (o : Entry) (here : Parts) (high start h t : ℕ) : Type 0 where
  pub some : 1 ≤ start
  pub below : start ≤ high
  pub height : h ≡ 9
  pub level : Level e a room n start (high - start) 9 t here
  pub says : repeat_of o ≡ r
  pub counts : ok_counts o ≡ true
  pub dx_in : o.cx ≤ most
  pub dy_in : o.cy ≤ most

-- all that is open, the innermost first, where `high` entries lie on the stack
unfoldable pub Opened : List ℕ → List ℕ → ℕ → ℕ → ℕ → ℕ → Around → Parts → ℕ → ℕ → ℕ → ℕ → ℕ → Type 0
Opened e a room n closed limit top here high start h t bodies = AtTop e a room n closed here high start h t bodies
Opened e a room n closed limit (within (block m) before around) here high start h t bodies =
    InBlock e a room n limit m (opener e room start) here high start h t
    × Opened e a room n closed (opener e room start).who around before (start - 1) (opener e room start).sx (opener e room start).sy (opener e room start).before bodies
Opened e a room n closed limit (within (repeat r) before around) here high start h t bodies =
    InRepeat e a room n r (opener e room start) here high start h t
    × Opened e a room n closed limit around before (start - 1) (opener e room start).who 10 (opener e room start).before bodies

-- the store shows a sheet that is being written out: its closed blocks, and what is open
pub record Built (s : Sheet) (e a : List ℕ) (room n closed high start h t : ℕ) : Type 0 where
  pub as_long : entry_room e ≡ room
  pub fits : closed + high ≤ room
  pub blocks_ok : (b : ℕ) → b < n → ok_block e a closed n b ≡ true
  pub blocks_show : (b : ℕ) → b < n → is_block a b ≡ true → parts e a 8 (block_of a b) ≡ parts_of (aperture_of a b).number s.blocks
  pub distinct : (b c : ℕ) → b < n → c < n → (aperture_of a b).number ≡ (aperture_of a c).number → b ≡ c
  pub bodies : ℕ
  pub lengths : sums (block_length a) 0 n + bodies ≡ closed
  pub opened : Opened e a room n closed n s.around s.here high start h t bodies
