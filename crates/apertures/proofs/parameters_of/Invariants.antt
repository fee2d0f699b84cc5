-- `apertures::parameters_of` meets its contract. The loop's invariant: what is gathered, with the parameters from here on, is what all
-- of them come to; no more of them are counted than bytes were passed.
-- Assumes nothing.
use Rattle.apertures.specs.Parameters.{gathered, parameters_of}
use Rattle.text.specs.Pieces.{pieces}
use lib.ListN.{length, drop}
use mathlib.Core.Path.{◌≡◌}
use Prim.Native.Char.{code}
use Prim.Native.Nat.{◌-◌, ◌≤◌}
use Rattle.apertures.proofs.parameters_of.Given as goal

abbrev pub invariant-loop-at : goal.invariant-loop-at
invariant-loop-at l =
    (gathered (record { formless = l.formless; long = l.long; count = l.count; rounded = l.rounded }) (pieces (code "X") (drop l.at l.s)) ≡ parameters_of (drop l.comma l.s))
    × (l.count ≤ l.at)
    × (l.rounded ≤ l.at)

abbrev pub decreases-loop-at : goal.decreases-loop-at
decreases-loop-at l = length l.s - l.at
