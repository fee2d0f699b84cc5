-- `address::standing` meets its contract. The loop's invariant: the sum so far, which is no more than the entries seen.
use Rattle.law_addresses.specs.Positions.{stands_at}
use Rattle.base.specs.Run.{sums}
use mathlib.Core.Path.{◌≡◌}
use Prim.Native.Nat.{◌≤◌}
use Rattle.address.proofs.standing.Given as goal

abbrev pub invariant-loop-i : goal.invariant-loop-i
invariant-loop-i l = (l.i ≤ l.n) × (l.so_far ≡ sums (stands_at l.e) l.p l.i)
