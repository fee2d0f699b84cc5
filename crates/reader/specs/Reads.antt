-- The outcome of the call for a reading: the answer of the definition (crates/law_reading), and the lent words after it.
use Rattle.running.specs.Units.{unit_in}
use Rattle.std.specs.Prelude.{ℕ, ◌≡◌, List, pos, length, replicate, Err, Ok, Result}
use Rattle.law_reading.specs.Reading.{Answer, accepted, refused}
use Rattle.progress.specs.Lent.{Lent}
pub use Rattle.running.specs.Ends.{AsLong}
use Rattle.reader.specs.Leaves.{Leaves}
use Rattle.reader.specs.declared.Accepted.{Accepted}
use Rattle.sequence.specs.declared.Refusal.{Refusal}

-- document 01's number of each case, and its values: the place, 0 where the file is accepted; the unit and the rounded decimals, 0 where
-- it is refused
unfoldable pub number_of : Result Accepted Refusal → ℕ
number_of (Ok r) = 0
number_of (Err f) = f.number

unfoldable pub place_of : Result Accepted Refusal → ℕ
place_of (Ok r) = 0
place_of (Err f) = f.place

unfoldable pub unit_of : Result Accepted Refusal → ℕ
unit_of (Ok r) = r.unit
unit_of (Err f) = 0

unfoldable pub rounded_of : Result Accepted Refusal → ℕ
rounded_of (Ok r) = r.rounded
rounded_of (Err f) = 0

-- "A reading refusal zeroes every lent store to its full length"; w is what was lent, w' what it is at the end
pub record Zeroed (w w' : Lent) (head : List ℕ) : Type 0 where
  pub head_is : head ≡ replicate 8 0
  pub entries_are : w'.entries ≡ replicate (length w.entries) 0
  pub apertures_are : w'.apertures ≡ replicate (length w.apertures) 0
  pub macros_are : w'.macros ≡ replicate (length w.macros) 0
  pub numbers_are : w'.numbers ≡ replicate (length w.numbers) (pos 0)

-- "An accepted reading also gives the unit, mm or inch", 1 or 2, and "reports how many decimals were rounded" (02, [1])
unfoldable pub Reads : ℕ → Answer → Lent → Lent → List ℕ → Result Accepted Refusal → Type 0
Reads rounded (accepted s) w w' head r =
    (r ≡ Ok (record { unit = unit_in s.graphics.header; rounded = rounded })) × AsLong w w' × Leaves w.file head w'.entries w'.apertures w'.macros w'.numbers s
Reads rounded (refused number place) w w' head r = (r ≡ Err (record { number = number; place = place })) × Zeroed w w' head
