-- `names::repeat_in` meets its contract. The loop's invariant: the place sought is what was found, or the first name set twice from here on,
-- whichever stands before the other.
-- Assumes nothing.
use Prim.Native.Nat.{◌-◌, ◌≤◌, min}
use mathlib.Core.Path.{◌≡◌}
use mathlib.Core.List.{[]}
use lib.ListN.{length}
use Rattle.names.specs.Twice.{twice_in, twice_at}
use Rattle.names.proofs.repeat_in.Given as goal

abbrev pub invariant-loop-at : goal.invariant-loop-at
invariant-loop-at l =
    (l.at ≤ length l.file) × (l.found ≤ length l.file) × (min l.found (twice_in l.book l.file l.at []) ≡ twice_at l.book l.file) × (length l.s ≡ length l.initial.s)

abbrev pub decreases-loop-at : goal.decreases-loop-at
decreases-loop-at l = length l.file - l.at
