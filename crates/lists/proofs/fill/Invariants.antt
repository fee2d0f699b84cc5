-- The first i slots are set, and the others are as they were lent.
use Rattle.std.proofs.Common.{◌≡◌, ℕ, ◌+◌, ◌≤◌, length}
use Rattle.lists.specs.Lists.{held, slot_of}
use Rattle.lists.proofs.Upto.{upto}
use Rattle.lists.proofs.fill.Given as goal

abbrev pub invariant-loop-i : goal.invariant-loop-i
invariant-loop-i l =
    record { within : l.i ≤ length l.fn.list; set_so_far : l.list ≡ upto (λ (i : ℕ). slot_of (held l.head l.e l.a) (l.k + i)) l.i l.fn.list }
