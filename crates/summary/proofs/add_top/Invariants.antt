-- `summary::add_top` meets its contract. The loop's invariant: the rows kept are those of the first i entries, and none of these flashes a block.
use Prim.Native.Nat.{◌≤◌}
use mathlib.Core.Path.{◌≡◌}
use lib.ListN.{length}
use Rattle.summary.proofs.Added.{TopGone}
use Rattle.summary.proofs.add_top.Given as goal

abbrev pub invariant-loop-i : goal.invariant-loop-i
invariant-loop-i l = (l.i ≤ l.k.len) × (length l.s ≡ length l.initial.s) × TopGone l.e l.a l.n l.k.first l.i l.s
