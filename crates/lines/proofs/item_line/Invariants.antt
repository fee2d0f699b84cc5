-- `lines::item_line` meets its contract. The loop's invariant: the number and the fields before word i stand there.
use Prim.Native.Nat.{◌+◌, ◌*◌, ◌≤◌}
use Rattle.lines.specs.Line.{Added}
use Rattle.lines.proofs.Laws.{fields}
use Rattle.lines.proofs.item_line.Given as goal

abbrev pub invariant-loop-i : goal.invariant-loop-i
invariant-loop-i l = (l.initial.at ≤ l.at) × (l.at ≤ 20 + 22 * l.i) × Added l.initial.out l.out 0 l.at (fields l.k l.words l.i)
