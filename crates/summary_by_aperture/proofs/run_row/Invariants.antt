-- `summary_by_aperture::run_row` meets its contract. The loop's invariant: the rows of the first i entries are merged.
use Prim.Native.Nat.{◌≤◌}
use mathlib.Core.Path.{◌≡◌}
use Rattle.summary_by_aperture.specs.Walk.{merges, entry_row_at}
use Rattle.summary_by_aperture.proofs.run_row.Given as goal

abbrev pub invariant-loop-i : goal.invariant-loop-i
invariant-loop-i l = (l.i ≤ l.k.len) × (l.so_far ≡ merges (entry_row_at l.e l.s l.q) l.k.first l.i)
