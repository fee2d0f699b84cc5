-- `descend::find` meets its contract. The loop's invariant: the entry at `low` begins at or before item n, and the one at `high`, if the container has it, after.
use Rattle.sheet.specs.Records.{entry_room, entry_of}
use Prim.Native.Nat.{◌≤◌, ◌<◌, ◌-◌}
use Rattle.descend.proofs.find.Given as goal

abbrev pub invariant-loop-low : goal.invariant-loop-low
invariant-loop-low l =
    (l.initial.low ≤ l.low) × (l.low < l.high) × (l.high ≤ l.initial.high) × (l.initial.high ≤ entry_room l.e) × ((entry_of l.e l.low).before ≤ l.n) × (l.high < l.initial.high → l.n < (entry_of l.e l.high).before)

abbrev pub decreases-loop-low : goal.decreases-loop-low
decreases-loop-low l = l.high - l.low
