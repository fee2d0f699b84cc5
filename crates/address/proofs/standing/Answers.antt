use Rattle.law_addresses.proofs.Spots.{standing_few, next_sum, no_sum}
use Rattle.law_addresses.specs.Positions.{stands_at}
use Rattle.base.specs.Run.{sums}
use native.Mathlib.Omega.{arith}
use mathlib.Core.Path.{◌≡◌}
use Prim.Native.Nat.{◌+◌}
use Rattle.address.proofs.standing.Goals as goal

pub loop-i-init : goal.loop-i-init
loop-i-init c = (omega arith, no_sum _ _)

pub overflow_add-so_far : goal.overflow_add-so_far
overflow_add-so_far c =
    let added : let l = c.loop-i in let A = c.args in
    l.so_far + c.stands_as-so_far.result ≡ sums (stands_at A.e.now) A.p (l.i + 1) =
    next_sum _ _ _ _ _ c.loop-i.invariant.1 (rw (c.stands_as-so_far.ensures, c.role_of.ensures, c.entry_at-r.ensures)) in
    let l = c.loop-i in let A = c.args in
    omega (arith, added, standing_few A.e.now A.p (l.i + 1))

pub loop-i-preserved : goal.loop-i-preserved
loop-i-preserved c =
    let added : let l = c.loop-i in let A = c.args in
    l.so_far + c.stands_as-so_far.result ≡ sums (stands_at A.e.now) A.p (l.i + 1) =
    next_sum _ _ _ _ _ c.loop-i.invariant.1 (rw (c.stands_as-so_far.ensures, c.role_of.ensures, c.entry_at-r.ensures)) in
    (omega arith, added)

pub returns : goal.returns
returns c = let l = c.loop-i in let A = c.args in let q : l.i ≡ A.n = omega arith in rw (← q) l.invariant.1
