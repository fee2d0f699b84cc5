-- `notes::find` meets its contract.
-- Assumes nothing.
use Rattle.notes.specs.Notes.{Sought}
use Prim.Native.Nat.{◌≤◌, ◌<◌, ◌-◌}
use Rattle.notes.proofs.find.Given as goal

abbrev pub invariant-loop-low : goal.invariant-loop-low
invariant-loop-low l = (w : Sought l.s l.used l.place) × (l.low ≤ w.at) × (w.at < l.high) × (l.high ≤ l.used)

abbrev pub decreases-loop-low : goal.decreases-loop-low
decreases-loop-low l = l.high - l.low
