-- `macros::values` meets its contract: the loop's invariant: what the parameters from here on leave, after what was left so far, is what all of them leave.
-- Assumes nothing.
use Rattle.macros.specs.Work.{values_of, parameters_in}
use Rattle.macros.proofs.Gathering.{Gathering}
use lib.ListN.{length, drop}
use Prim.Native.Nat.{◌-◌}
use Rattle.macros.proofs.values.Given as goal

abbrev pub invariant-loop-at : goal.invariant-loop-at
invariant-loop-at l = Gathering (values_of l.v.values (parameters_in (drop l.comma l.t))) (values_of l.v.values (parameters_in (drop l.at l.t))) l.initial.numbers l.numbers l.initial.pen l.pen l.q l.at

abbrev pub decreases-loop-at : goal.decreases-loop-at
decreases-loop-at l = length l.t - l.at
