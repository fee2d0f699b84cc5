-- `definition_steps::standard` meets its contract: the loop's invariant: what the parameters from here on leave, after what was left so far, is what all of them leave.
-- Assumes nothing.
use Prim.Native.Nat.{◌-◌}
use lib.ListN.{length, drop}
use Rattle.macros.proofs.Gathering.{Gathering}
use Rattle.definition_steps.proofs.Gathered.{given}
use Rattle.definition_steps.proofs.standard.Given as goal

abbrev pub invariant-loop-at : goal.invariant-loop-at
invariant-loop-at l = Gathering (given l.t) (given (drop l.at l.t)) l.initial.numbers l.numbers l.initial.pen l.pen l.q l.at

abbrev pub decreases-loop-at : goal.decreases-loop-at
decreases-loop-at l = length l.t - l.at
