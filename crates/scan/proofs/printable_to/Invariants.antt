-- `scan::printable_to` meets its contract. The loop's invariant: the first such place from here on is the first from the start.
-- Assumes nothing.
use Prim.Native.Nat.{◌≤◌, max}
use mathlib.Core.Path.{◌≡◌}
use lib.ListN.{length}
use Rattle.scan.specs.Printable.{printable_to}
use Rattle.scan.proofs.printable_to.Given as goal

abbrev pub invariant-loop-at : goal.invariant-loop-at
invariant-loop-at l = record {
  same : printable_to l.end l.file l.at ≡ printable_to l.end l.file l.from;
  near : l.at ≤ max l.from (length l.file);
}
