-- The counts of the rows add up to the sheet's total, where each item that is of no region has the number of just one aperture record.
-- Assumes nothing.
use Prim.Native.Nat.{ℕ, ◌+◌}
use mathlib.Core.Path.{◌≡◌, ◌∙◌}
use mathlib.Core.Bool.{true}
use mathlib.Core.List.{List}
use Rattle.base.specs.Run.{sums}
use Rattle.sheet.specs.Records.{aperture_of}
use Rattle.sheet.specs.Containers.{apertures_used, top_of}
use Rattle.sheet.specs.Meaning.{sheet_items}
use Rattle.sheet.specs.Valid.{valid}
use Rattle.sheet.proofs.Expand.{length_sheet}
use Rattle.summary_rows.specs.Summed.{row_of}
use Rattle.summary_rows.specs.declared.Asked.TheVariants.{Aperture, Regions}
use Rattle.summary_rows.proofs.Totals.{Named, counts_add_up}

pub rows_add_up : (head e a : List ℕ) → valid head e a ≡ true → Named (λ b. (aperture_of a b).number) 0 (apertures_used head) (sheet_items head e a) →
    sums (λ b. (row_of (Aperture (aperture_of a b).number) (sheet_items head e a)).count) 0 (apertures_used head) + (row_of Regions (sheet_items head e a)).count ≡ (top_of head).items
rows_add_up head e a v named = counts_add_up (λ b. (aperture_of a b).number) 0 (apertures_used head) named ∙ length_sheet head e a v
