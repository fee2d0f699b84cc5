-- `names::first_at` meets its contract. The loop's invariant: the name is first set where it is from here on.
-- Assumes nothing.
use Prim.Native.Nat.{◌-◌, ◌≤◌}
use mathlib.Core.Path.{◌≡◌}
use mathlib.Core.List.{[], ◌∷◌}
use lib.ListN.{length}
use Rattle.names.specs.Twice.{first_in, first_at}
use Rattle.names.proofs.first_at.Given as goal

abbrev pub invariant-loop-next : goal.invariant-loop-next
invariant-loop-next l = (l.at ≤ length l.file) × (first_in l.book l.file l.at (l.name ∷ []) ≡ first_at l.book l.file l.name)

abbrev pub decreases-loop-next : goal.decreases-loop-next
decreases-loop-next l = length l.file - l.at
