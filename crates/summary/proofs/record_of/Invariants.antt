-- `summary::record_of` meets its contract. The loop's invariant: from the record at hand the links lead where they lead from the first.
use Prim.Native.Nat.{◌-◌}
use mathlib.Core.Path.{◌≡◌}
use Rattle.summary.specs.Links.{leads_to, record_of}
use Rattle.summary.proofs.record_of.Given as goal

abbrev pub invariant-loop-step : goal.invariant-loop-step
invariant-loop-step l = leads_to l.a l.n (65 - l.step) l.at l.key l.number ≡ record_of l.a l.n l.number
