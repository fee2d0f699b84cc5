-- The outcome of the call for a reading, in numbers alone: `reader`'s contract with its answer taken apart (decision 282).
use Rattle.std.specs.Prelude.{ℕ, ◌≡◌, List, Result}
use Rattle.law_reading.specs.Reading as definition
use Rattle.progress.specs.Lent.{Lent}
use Rattle.reader.specs.Reads.{Reads, number_of, place_of, unit_of, rounded_of}
use Rattle.reader.specs.declared.Accepted.{Accepted}
use Rattle.sequence.specs.declared.Refusal.{Refusal}

-- w is what was lent, w' what it is at the end, r the reader's answer, and so many decimals an accepted reading reports
pub record ReadsInto (decimals : ℕ) (a : definition.Answer) (w w' : Lent) (head : List ℕ) (number place unit rounded : ℕ) : Type 0 where
  pub r : Result Accepted Refusal
  pub reads : Reads decimals a w w' head r
  pub number_is : number ≡ number_of r
  pub place_is : place ≡ place_of r
  pub unit_is : unit ≡ unit_of r
  pub rounded_is : rounded ≡ rounded_of r
