-- The rows kept of a sheet's blocks, in the order of the list: a block's row needs those of lower blocks alone.
use Rattle.std.specs.Prelude.{ℕ, ◌*◌, ◌/◌, ◌≤◌, ◌<◌, ◌≡◌, true, List, length}
use Rattle.sheet.specs.Records.{stored}
use Rattle.sheet.specs.Containers.{apertures_used, block_of}
use Rattle.sheet.specs.Meaning.{items}
use Rattle.sheet.specs.Valid.{valid}
use Rattle.summary_rows.specs.Summed.{row_of}
use Rattle.summary_rows.specs.declared.Asked.{Asked}
use Rattle.summary_by_aperture.specs.Kept.{kept_width, scratch_width, kept_words, row_at}
use Rattle.summary_by_aperture.specs.Walk.{run_row}
use Rattle.summary_by_aperture.specs.Listed.{Listed, listed_at}

-- record b's row as a block's, kept
unfoldable pub with_block : List ℕ → List ℕ → Asked → ℕ → List ℕ → List ℕ
with_block e a q b s = stored s (b * kept_width) (kept_words (run_row e s q (block_of a b)))

-- the row kept of block b is that of its items
pub record IsKept (e a s : List ℕ) (q : Asked) (b : ℕ) : Type 0 where
  pub row_is : (f : ℕ) → (block_of a b).height ≤ f → row_at s b ≡ row_of q (items e a f (block_of a b))

-- a sheet, and scratch for each of its aperture records
pub record Fits (head e a s : List ℕ) : Type 0 where
  pub ok : valid head e a ≡ true
  pub room : apertures_used head ≤ length s / scratch_width

-- its m blocks are listed
pub record Ready (head e a s : List ℕ) (m : ℕ) : Type 0 where
  pub fits : Fits head e a s
  pub listed : Listed a s (apertures_used head) 9 0 m

-- and the rows of the first i are kept
pub record Done (head e a : List ℕ) (q : Asked) (m i : ℕ) (s : List ℕ) : Type 0 where
  pub ready : Ready head e a s m
  pub kept : (j : ℕ) → j < i → IsKept e a s q (listed_at s (apertures_used head) j)
