-- `summary::add_run` meets its contract. The loop's invariant: the copies of what the first i entries draw are added, and none of these flashes a block.
use Prim.Native.Nat.{◌≤◌}
use mathlib.Core.Path.{◌≡◌}
use lib.ListN.{length}
use Rattle.summary.proofs.Added.{RunGone}
use Rattle.summary.proofs.add_run.Given as goal

abbrev pub invariant-loop-i : goal.invariant-loop-i
invariant-loop-i l = (l.i ≤ l.k.len) × (length l.s ≡ length l.initial.s) × RunGone l.e l.a l.n l.m l.k.first l.initial.s l.i l.s
