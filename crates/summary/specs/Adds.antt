-- Rows of all aperture records at once, kept in scratch: what one entry, a run of entries and the top level add to each.
use Rattle.std.specs.Prelude.{ℕ, ◌+◌, ◌-◌, ◌*◌, ◌/◌, ◌≤◌, ◌<◌, ◌^◌, ◌≡◌, true, List, [], ◌++◌, eqb, length, replicate}
use Rattle.base.specs.Run.{run}
use Rattle.place.specs.declared.Repeat.{Repeat}
use Rattle.sheet.specs.Records.{entry_of, aperture_of, entry_room, aperture_room}
use Rattle.sheet.specs.Containers.{body_of}
use Rattle.sheet.specs.Meaning.{repeat_of}
use Rattle.sheet.specs.declared.Entry.{Entry}
use Rattle.sheet.specs.declared.Container.{Container}
use Rattle.summary_rows.specs.Rows.{no_row, merged, ExtentWithin, Steps}
use Rattle.summary_rows.specs.declared.Row.{Row}
use Rattle.summary_rows.specs.declared.Asked.{Asked}
use Rattle.summary_rows.specs.declared.Asked.TheVariants.{Aperture}
use Rattle.summary_by_aperture.specs.Kept.{row_width, kept_width, row_words, row_at}
use Rattle.summary_by_aperture.specs.Walk.{entry_row, top_row_at, top_row, Countable}
use Rattle.summary.specs.Links.{is_linked}

-- what record b is asked for
abbrev pub asked_by : List ℕ → ℕ → Asked
asked_by a b = Aperture (aperture_of a b).number

-- to the row of each of the first n records is added what G says of it
pub record Adds (a : List ℕ) (n : ℕ) (G : Asked → Row) (s s' : List ℕ) : Type 0 where
  pub rows : (b : ℕ) → b < n → row_at s' b ≡ merged (row_at s b) (G (asked_by a b))

-- there is room for the rows, and what is added leaves them within 64 bits
pub record Room (a : List ℕ) (n : ℕ) (G : Asked → Row) (s : List ℕ) : Type 0 where
  pub apertures : n ≤ aperture_room a
  pub linked : is_linked a n ≡ true
  pub fits : n ≤ length s / kept_width
  pub few : (b : ℕ) → b < n → (row_at s b).count + (G (asked_by a b)).count ≤ 10 ^ 12
  pub near : (b : ℕ) → b < n → ExtentWithin (10 ^ 17) (row_at s b).extent

-- copies that are few and near
pub record Copies (m : Repeat) : Type 0 where
  pub steps : Steps m
  pub column : m.ny ≤ 10 ^ 12
  pub whole : m.nx * m.ny ≤ 10 ^ 12

unfoldable pub single : Repeat
single = record { nx = 1; ny = 1; dx = 0; dy = 0 }

-- an entry whose points are near
pub record Near (r : Entry) : Type 0 where
  pub row_near : (q : Asked) → ExtentWithin (10 ^ 15) (entry_row [] q r).extent
  pub row_one : (q : Asked) → (entry_row [] q r).count ≤ 1

pub record RunNear (e : List ℕ) (k : Container) : Type 0 where
  pub inside : k.first + k.len ≤ entry_room e
  pub each : (i : ℕ) → i < k.len → Near (entry_of e (k.first + i))

pub record EntryNear (e : List ℕ) (r : Entry) : Type 0 where
  pub near : Near r
  pub copies : eqb r.kind 10 ≡ true → Copies (repeat_of r)
  pub body : eqb r.kind 10 ≡ true → RunNear e (body_of r)

-- no block is flashed
pub record NoFlash (r : Entry) : Type 0 where
  pub none : r.kind ≡ 9 → ⊥

pub record RunFree (e : List ℕ) (k : Container) : Type 0 where
  pub each : (i : ℕ) → i < k.len → NoFlash (entry_of e (k.first + i))

pub record EntryFree (e : List ℕ) (r : Entry) : Type 0 where
  pub itself : NoFlash r
  pub body : eqb r.kind 10 ≡ true → RunFree e (body_of r)

pub record TopFree (e : List ℕ) (k : Container) : Type 0 where
  pub each : (i : ℕ) → i < k.len → EntryFree e (entry_of e (k.first + i))

-- the top level, and scratch in which no row counts anything yet
pub record TopReady (e a : List ℕ) (n : ℕ) (k : Container) (s : List ℕ) : Type 0 where
  pub apertures : n ≤ aperture_room a
  pub linked : is_linked a n ≡ true
  pub fits : n ≤ length s / kept_width
  pub empty : (b : ℕ) → b < n → row_at s b ≡ no_row
  pub inside : k.first + k.len ≤ entry_room e
  pub each : (i : ℕ) → i < k.len → EntryNear e (entry_of e (k.first + i))
  pub counts : (q : Asked) → Countable (top_row_at e [] q) k.first k.len

-- the rows kept are those of the top level
pub record Gathered (e a : List ℕ) (n : ℕ) (k : Container) (s : List ℕ) : Type 0 where
  pub rows : (b : ℕ) → b < n → row_at s b ≡ top_row e [] (asked_by a b) k

-- the rows kept of n records, as words, and zeros after them
unfoldable pub put_rows : List ℕ → ℕ → ℕ → List ℕ
put_rows s n words = run (λ b. row_words (row_at s b)) 0 n ++ replicate (words - n * row_width) 0
