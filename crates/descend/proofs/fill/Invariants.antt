-- `descend::fill` meets its contract. The loop's invariant: j slots are filled, and the rest is 0.
use Rattle.place.specs.Item.{item_width}
use Rattle.descend.specs.Search.{Whole}
use Rattle.descend.proofs.Slots.{filled}
use Rattle.sheet.specs.Meaning.{items}
use lib.ListN.{length}
use mathlib.Core.Path.{◌≡◌}
use Prim.Native.Nat.{◌≤◌, ◌/◌}
use Rattle.descend.proofs.fill.Given as goal

abbrev pub invariant-loop-j : goal.invariant-loop-j
invariant-loop-j l = (l.j ≤ l.room) × (length l.out ≡ length l.initial.out) × (l.out ≡ filled (items l.e l.a 10 l.k) l.n (length l.initial.out) l.j) × (Whole l.e l.a l.k l.n) × (l.room ≡ length l.initial.out / item_width)
