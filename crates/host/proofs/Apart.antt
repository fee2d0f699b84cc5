-- The reader's answer taken apart.
-- Assumes nothing.
use Rattle.std.specs.Prelude.{Err, Ok, Result}
use Prim.Native.Nat.{ℕ}
use mathlib.Core.Path.{◌≡◌, refl}
use mathlib.Core.List.{List}
use Rattle.law_reading.specs.Reading as definition
use Rattle.progress.specs.Lent.{Lent}
use Rattle.reader.specs.Reads.{Reads, number_of, place_of, unit_of, rounded_of}
use Rattle.host.specs.Reads.{ReadsInto}
use Rattle.reader.specs.declared.Accepted.{Accepted}
use Rattle.sequence.specs.declared.Refusal.{Refusal}

abbrev Answered : Result Accepted Refusal → ℕ → ℕ → ℕ → ℕ → Type 0
Answered r number place unit rounded = (number ≡ number_of r) × (place ≡ place_of r) × (unit ≡ unit_of r) × (rounded ≡ rounded_of r)

pub told_accepted : (r : Result Accepted Refusal) (u n : ℕ) → r ≡ Ok (record { unit = u; rounded = n }) → Answered r 0 0 u n
unfolding number_of place_of unit_of rounded_of
told_accepted r u n k = rw k (refl, refl, refl, refl)

pub told_refused : (r : Result Accepted Refusal) (n p : ℕ) → r ≡ Err (record { number = n; place = p }) → Answered r n p 0 0
unfolding number_of place_of unit_of rounded_of
told_refused r n p k = rw k (refl, refl, refl, refl)

pub reads_into : {d : ℕ} {a : definition.Answer} {w w' : Lent} {head : List ℕ} (r : Result Accepted Refusal) {number place unit rounded : ℕ} →
    Reads d a w w' head r → Answered r number place unit rounded → ReadsInto d a w w' head number place unit rounded
reads_into r h t = record { r = r; reads = h; number_is = t.0; place_is = t.1; unit_is = t.2; rounded_is = t.3 }
