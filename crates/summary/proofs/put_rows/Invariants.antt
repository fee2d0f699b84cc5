-- `summary::put_rows` meets its contract. The loop's invariant: the rows of b records are put, and the rest is 0.
use Prim.Native.Nat.{◌≤◌}
use mathlib.Core.Path.{◌≡◌}
use lib.ListN.{length}
use Rattle.summary.specs.Adds.{put_rows}
use Rattle.summary.proofs.put_rows.Given as goal

abbrev pub invariant-loop-b : goal.invariant-loop-b
invariant-loop-b l = (l.b ≤ l.n) × (length l.out ≡ length l.initial.out) × (l.out ≡ put_rows l.s l.b (length l.initial.out))
