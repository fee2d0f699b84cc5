-- What the call answers (02, [11]; decisions 410 to 414).
use Rattle.std.specs.Prelude.{ℕ, ◌+◌, ◌-◌, ◌*◌, ◌/◌, Bool, cond, List, ◌++◌, leb, ltb, replicate, Err, Ok, Result, ⊤}
use Rattle.base.specs.And.{◌and◌}
use Rattle.base.specs.Run.{run}
use Rattle.place.specs.declared.Item.{Item}
use Rattle.sheet.specs.Records.{aperture_of}
use Rattle.sheet.specs.Containers.{apertures_used}
use Rattle.sheet.specs.Meaning.{sheet_items}
use Rattle.sheet.specs.Valid.{valid}
use Rattle.summary_rows.specs.Summed.{row_of}
use Rattle.summary_rows.specs.declared.Asked.TheVariants.{Aperture, Regions}
use Rattle.summary_by_aperture.specs.Kept.{row_width, scratch_width, row_words}
use Rattle.summary_by_aperture.specs.declared.SummaryError.TheVariants as summary_error
use Rattle.summary_by_aperture.specs.declared.SummaryError.{SummaryError}

-- the row of aperture record b: of the items ts, those with its number
unfoldable pub aperture_row : List Item → List ℕ → ℕ → List ℕ
aperture_row ts a b = row_words (row_of (Aperture (aperture_of a b).number) ts)

-- "apertures in store order and regions last"; "an unused .. spare row is zeros"
unfoldable pub summary_words : List Item → List ℕ → ℕ → ℕ → List ℕ
summary_words ts a n words = run (aperture_row ts a) 0 n ++ row_words (row_of Regions ts) ++ replicate (words - (n + 1) * row_width) 0

-- more rows than the n aperture records, and scratch for each of these
unfoldable pub roomy : ℕ → ℕ → ℕ → Bool
roomy n words scratch = ltb n (words / row_width) and leb n (scratch / scratch_width)

-- "Refusals: 21, then 17"
unfoldable pub outcome_of : List ℕ → List ℕ → List ℕ → ℕ → ℕ → Result ⊤ SummaryError
outcome_of head e a words scratch = cond (valid head e a) (cond (roomy (apertures_used head) words scratch) (Ok _) (Err summary_error.Short)) (Err summary_error.NotSheet)

unfoldable pub outcome_number : Result ⊤ SummaryError → ℕ
outcome_number (Ok _) = 0
outcome_number (Err summary_error.Short) = 17
outcome_number (Err summary_error.NotSheet) = 21

-- what the lent rows hold afterwards: "both zero that room"
unfoldable pub summed : List ℕ → List ℕ → List ℕ → ℕ → ℕ → List ℕ
summed head e a words scratch =
    cond (valid head e a and roomy (apertures_used head) words scratch)
    (summary_words (sheet_items head e a) a (apertures_used head) words)
    (replicate words 0)
