use Rattle.law_addresses.proofs.Spots.{next_sum, no_sum}
use Rattle.law_addresses.specs.Positions.{span_at}
use Rattle.sheet.proofs.Every.{sums_grow}
use Rattle.base.specs.Run.{sums}
use native.Mathlib.Omega.{arith}
use mathlib.Core.Path.{◌≡◌}
use Prim.Native.Nat.{◌+◌}
use Rattle.address.proofs.spans.Goals as goal

pub loop-i-init : goal.loop-i-init
loop-i-init c = (omega arith, no_sum _ _)

pub span_of-so_far-requires : goal.span_of-so_far-requires
span_of-so_far-requires c = rw c.entry_at.ensures (c.requires.bodies c.loop-i.i (omega arith))

pub overflow_add-so_far : goal.overflow_add-so_far
overflow_add-so_far c =
    let added : let l = c.loop-i in let A = c.args in
    l.so_far + c.span_of-so_far.result ≡ sums (span_at A.e.now) A.p (l.i + 1) =
    next_sum _ _ _ _ _ c.loop-i.invariant.1 (rw (c.span_of-so_far.ensures, c.entry_at.ensures)) in
    let l = c.loop-i in let A = c.args in
    omega (arith, added, sums_grow (span_at A.e.now) A.p (l.i + 1) A.n (omega arith))

pub loop-i-preserved : goal.loop-i-preserved
loop-i-preserved c =
    let added : let l = c.loop-i in let A = c.args in
    l.so_far + c.span_of-so_far.result ≡ sums (span_at A.e.now) A.p (l.i + 1) =
    next_sum _ _ _ _ _ c.loop-i.invariant.1 (rw (c.span_of-so_far.ensures, c.entry_at.ensures)) in
    (omega arith, added)

pub returns : goal.returns
returns c = let l = c.loop-i in let A = c.args in let q : l.i ≡ A.n = omega arith in rw (← q) l.invariant.1
