-- `intake::take` meets its contract: before each turn, taking what is left leads to where the whole run leads.
use Rattle.std.proofs.Common.{◌≡◌, drop}
use Rattle.intake.specs.Runs.{taken}
use Rattle.intake.proofs.take.Given as goal

abbrev pub invariant-loop-b : goal.invariant-loop-b
invariant-loop-b l = taken l.v (drop l.b-index l.t) ≡ taken l.initial.v l.t
