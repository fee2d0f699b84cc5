-- `address::holder` meets its contract. The loop's invariant: the search from the start is the search from here.
use Rattle.law_addresses.specs.Positions.{span_at, spot}
use mathlib.Core.Path.{◌≡◌}
use Prim.Native.Nat.{◌≤◌, ◌+◌, ◌-◌}
use Rattle.address.proofs.holder.Given as goal

abbrev pub invariant-loop-i : goal.invariant-loop-i
invariant-loop-i l = (l.i ≤ l.n) × (spot (span_at l.e) l.p l.n l.m ≡ spot (span_at l.e) (l.p + l.i) (l.n - l.i) l.left)
