-- `macro_form::primitive` meets its contract: the loop's invariant: what is wrong so far, with the expressions from here on, is what is wrong with all of it;
-- no more decimals are counted than bytes were passed.
-- Assumes nothing.
use Rattle.macro_form.specs.Blocks.{gathered, parameter_form, primitive_form}
use Rattle.text.specs.Pieces.{pieces}
use lib.ListN.{length, drop}
use mathlib.Core.Path.{◌≡◌}
use Prim.Native.Char.{code}
use Prim.Native.Nat.{◌-◌, ◌≤◌}
use Rattle.macro_form.proofs.primitive.Given as goal

abbrev pub invariant-loop-at : goal.invariant-loop-at
invariant-loop-at l = (gathered parameter_form l.f (pieces (code ",") (drop l.at l.t)) ≡ primitive_form l.t) × (l.f.rounded ≤ l.at)

abbrev pub decreases-loop-at : goal.decreases-loop-at
decreases-loop-at l = length l.t - l.at
