-- The row of a container's entries, worked out from rows that are kept of the blocks.
use Rattle.std.specs.Prelude.{ℕ, zero, suc, ◌+◌, ◌*◌, ◌/◌, ◌≤◌, ◌<◌, ◌^◌, ◌≡◌, Bool, true, cond, not, List, eqb, leb, length}
use Rattle.base.specs.And.{◌and◌}
use Rattle.place.specs.Placing.{PoseWithin}
use Rattle.sheet.specs.Records.{entry_of, role_of, entry_room}
use Rattle.sheet.specs.Containers.{body_of}
use Rattle.sheet.specs.Meaning.{drawn, pose_of, repeat_of}
use Rattle.sheet.specs.declared.Entry.{Entry}
use Rattle.sheet.specs.declared.Container.{Container}
use Rattle.sheet.specs.declared.Role.{Role}
use Rattle.sheet.specs.declared.Role.TheVariants.{Draws, Uses, Repeats, Defines, Unknown}
use Rattle.summary_rows.specs.Rows.{no_row, merged, moved_row, copied_row, ExtentWithin, Steps}
use Rattle.summary_rows.specs.Summed.{asks, item_row}
use Rattle.summary_rows.specs.declared.Row.{Row}
use Rattle.summary_rows.specs.declared.Asked.{Asked}
use Rattle.summary_by_aperture.specs.Kept.{row_at}

-- F p, F (p + 1), ..: n rows merged
unfoldable pub merges : (ℕ → Row) → ℕ → ℕ → Row
merges F p zero = no_row
merges F p (suc n) = merged (F p) (merges F (suc p) n)

-- an entry of a block or a body: an item's row, or a block's, moved; s keeps the blocks' rows
unfoldable pub row_as : Role → List ℕ → Asked → Entry → Row
row_as Draws s q r = item_row q (drawn r)
row_as Uses s q r = moved_row (pose_of r) (row_at s r.who)
row_as Repeats s q r = no_row
row_as Defines s q r = no_row
row_as Unknown s q r = no_row

unfoldable pub entry_row : List ℕ → Asked → Entry → Row
entry_row s q r = row_as (role_of r.kind) s q r

-- an entry that draws an item which is not asked for: it has no row, and most have none
unfoldable pub is_idle : Asked → Entry → Bool
is_idle q r = leb r.kind 8 and not (asks q (drawn r))

abbrev pub entry_row_at : List ℕ → List ℕ → Asked → ℕ → Row
entry_row_at e s q i = entry_row s q (entry_of e i)

unfoldable pub run_row : List ℕ → List ℕ → Asked → Container → Row
run_row e s q k = merges (entry_row_at e s q) k.first k.len

-- an entry of the top level may repeat a body too
unfoldable pub top_entry_row : List ℕ → List ℕ → Asked → Entry → Row
top_entry_row e s q r = cond (eqb r.kind 10) (copied_row (repeat_of r) (run_row e s q (body_of r))) (entry_row s q r)

abbrev pub top_row_at : List ℕ → List ℕ → Asked → ℕ → Row
top_row_at e s q i = top_entry_row e s q (entry_of e i)

unfoldable pub top_row : List ℕ → List ℕ → Asked → Container → Row
top_row e s q k = merges (top_row_at e s q) k.first k.len

-- ---- when they can be worked out in 64 bits

pub record UseReady (s : List ℕ) (r : Entry) : Type 0 where
  pub who_in : r.who < length s / 6
  pub pose_in : PoseWithin (10 ^ 16) (pose_of r)
  pub near : ExtentWithin (10 ^ 17) (row_at s r.who).extent

pub record EntryReady (s : List ℕ) (r : Entry) : Type 0 where
  pub uses : role_of r.kind ≡ Uses → UseReady s r

-- each row counts no more than a sheet may have items, and so do the first of them together
pub record Countable (F : ℕ → Row) (p n : ℕ) : Type 0 where
  pub one_few : (i : ℕ) → i < n → (F (p + i)).count ≤ 10 ^ 12
  pub few : (i : ℕ) → i ≤ n → (merges F p i).count ≤ 10 ^ 12

pub record RunReady (e s : List ℕ) (q : Asked) (k : Container) : Type 0 where
  pub inside : k.first + k.len ≤ entry_room e
  pub each : (i : ℕ) → i < k.len → EntryReady s (entry_of e (k.first + i))
  pub counts : Countable (entry_row_at e s q) k.first k.len

pub record RepeatReady (e s : List ℕ) (q : Asked) (r : Entry) : Type 0 where
  pub body : RunReady e s q (body_of r)
  pub near : ExtentWithin (10 ^ 17) (run_row e s q (body_of r)).extent
  pub steps : Steps (repeat_of r)
  pub column : r.sy * (run_row e s q (body_of r)).count ≤ 10 ^ 12
  pub whole : r.sx * (r.sy * (run_row e s q (body_of r)).count) ≤ 10 ^ 12

pub record TopEntryReady (e s : List ℕ) (q : Asked) (r : Entry) : Type 0 where
  pub entry_ready : EntryReady s r
  pub repeats : eqb r.kind 10 ≡ true → RepeatReady e s q r

pub record TopReady (e s : List ℕ) (q : Asked) (k : Container) : Type 0 where
  pub inside : k.first + k.len ≤ entry_room e
  pub each : (i : ℕ) → i < k.len → TopEntryReady e s q (entry_of e (k.first + i))
  pub counts : Countable (top_row_at e s q) k.first k.len
