-- `build::turn_over` meets its contract. The loop's invariant: the first i and the last i entries have changed places.
use Rattle.build.proofs.Turning.{Swapped}
use Rattle.sheet.specs.Records.{entry_room}
use Prim.Native.Nat.{◌+◌, ◌≤◌}
use Rattle.build.proofs.turn_over.Given as goal

abbrev pub invariant-loop-i : goal.invariant-loop-i
invariant-loop-i l = (l.i ≤ l.n) × Swapped l.initial.e l.e l.lo l.hi l.i × (l.lo + l.n ≤ l.hi) × (l.hi ≤ entry_room l.initial.e)
