-- The summary of a sheet that a reading left (02, [11]: "It equals what a pass over the plain expansion gives, and the counts add up to
-- the total"). `plain s.marks` is the plain expansion of the file's marks.
use Rattle.std.specs.Prelude.{ℕ, ◌+◌, ◌<◌, ◌≡◌, true, List, length, Ok}
use Rattle.base.specs.Run.{sums}
use Rattle.place.specs.Mark.{plain}
use Rattle.sheet.specs.Records.{aperture_of}
use Rattle.sheet.specs.Containers.{apertures_used}
use Rattle.sheet.specs.Valid.{is_block}
use Rattle.summary_rows.specs.Rows.{no_row}
use Rattle.summary_rows.specs.Summed.{row_of}
use Rattle.summary_rows.specs.declared.Asked.TheVariants.{Aperture, Regions}
use Rattle.summary_by_aperture.specs.Answers.{roomy, summary_words, outcome_of, summed}
use Rattle.law_reading.specs.State.{State}
use Rattle.law_summary.specs.Tools.{AllTooled}

-- how many items the row of aperture record b counts
abbrev pub count_of : List ℕ → State → ℕ → ℕ
count_of a s b = (row_of (Aperture (aperture_of a b).number) (plain s.marks)).count

-- head, entries e and apertures a are left of a file whose reading ends in the state s. Whatever rows and scratch are lent then, if they
-- have room, the call is done, and its rows are those of a pass over the plain expansion.
pub record Summarised (head e a : List ℕ) (s : State) : Type 0 where
  pub done : (words scratch : ℕ) → roomy (apertures_used head) words scratch ≡ true → outcome_of head e a words scratch ≡ Ok _
  pub rows : (words scratch : ℕ) → roomy (apertures_used head) words scratch ≡ true →
      summed head e a words scratch ≡ summary_words (plain s.marks) a (apertures_used head) words
  pub tooled : AllTooled s.apertures (plain s.marks)
  pub total : sums (count_of a s) 0 (apertures_used head) + (row_of Regions (plain s.marks)).count ≡ length (plain s.marks)
  -- no item has a block's number (decision 410)
  pub blocks : (b : ℕ) → b < apertures_used head → is_block a b ≡ true → row_of (Aperture (aperture_of a b).number) (plain s.marks) ≡ no_row
