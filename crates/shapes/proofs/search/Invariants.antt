-- `shapes::search` meets its contract: the loop keeps that from the record at hand the links lead where they lead from the first.
-- Assumes nothing.
use Rattle.shapes.specs.Links.{led_from, led}
use mathlib.Core.Path.{◌≡◌}
use Prim.Native.Nat.{◌-◌}
use Rattle.shapes.proofs.search.Given as goal

abbrev pub invariant-loop-step : goal.invariant-loop-step
invariant-loop-step l = led_from l.a l.used l.number (32 - l.step) l.at l.key ≡ led l.a l.used l.number
