-- `scan::walk_from` meets its contract. The loop's invariant: the bytes from here on have the outcome of the whole walk.
-- Assumes nothing.
use Prim.Native.Nat.{◌-◌, ◌≤◌}
use mathlib.Core.Path.{◌≡◌}
use lib.ListN.{length, drop}
use Rattle.scan.specs.Scan.{next_command}
use Rattle.scan.specs.Ways.{run}
use Rattle.scan.proofs.walk_from.Given as goal

abbrev pub invariant-loop-at : goal.invariant-loop-at
invariant-loop-at l = (l.place ≤ l.at) × (run l.book (length l.file) l.place l.way (drop l.at l.file) l.at ≡ next_command l.book l.file l.from)

abbrev pub decreases-loop-at : goal.decreases-loop-at
decreases-loop-at l = length l.file - l.at
