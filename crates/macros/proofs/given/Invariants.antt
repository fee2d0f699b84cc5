-- `macros::given` meets its contract: the loop's invariant: what the parameters from here on set is what all of them set; all variables are small.
-- Assumes nothing.
use Rattle.macros.specs.Given.{given, variables_of}
use Rattle.expression.specs.Reading.{Fits}
use Rattle.text.specs.Pieces.{pieces}
use lib.ListN.{length, drop}
use mathlib.Core.Path.{◌≡◌}
use Prim.Native.Char.{code}
use Prim.Native.Nat.{◌-◌, ◌≤◌}
use Rattle.macros.proofs.given.Given as goal

abbrev pub invariant-loop-at : goal.invariant-loop-at
invariant-loop-at l = (given l.i l.v.values (pieces (code "X") (drop l.at l.s)) ≡ variables_of (drop l.comma l.s)) × Fits l.v.values × (l.i ≤ l.at)

abbrev pub decreases-loop-at : goal.decreases-loop-at
decreases-loop-at l = length l.s - l.at
