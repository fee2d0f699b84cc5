use Rattle.macros.proofs.Gathering.{gathering_starts, gathering_step, gathering_stop, gathering_end}
use Rattle.std.specs.Prelude.{None}
use Rattle.text.proofs.First.{first_from_lem}
use lib.Dec.{eqb}
use Prim.Native.Char.{code}
use Prim.Native.Nat.{◌+◌}
use native.Mathlib.Omega.{arith}
use Rattle.macros.proofs.values.Goals as goal

pub loop-at-init : goal.loop-at-init
loop-at-init c = gathering_starts _ _ _ _ _ c.nothing-q.ensures

pub overflow_add-at : goal.overflow_add-at
overflow_add-at c = omega arith

pub overflow_add-at-in-loop-at : goal.overflow_add-at-in-loop-at
overflow_add-at-in-loop-at c = omega arith

pub one_more-q-requires : goal.one_more-q-requires
one_more-q-requires c =
    omega (arith, c.loop-at.invariant.counted, c.loop-at-test.true)

pub loop-at-smaller : goal.loop-at-smaller
loop-at-smaller c =
    let l = c.loop-at in
    omega (arith, first_from_lem (λ b. eqb b (code ",")) c.args.t.now (l.at + 1), c.find-next.ensures)

pub loop-at-preserved : goal.loop-at-preserved
loop-at-preserved c =
    let l = c.loop-at in
    let a = c.args in
    gathering_step a.v.values _ a.t.now l.at _ _ _ _ _ l.q c.worth_of.result l.invariant c.loop-at-test.true c.find-next.ensures
    (rw (c.without_leading-text.ensures, c.part.ensures) at c.worth_of.ensures) _ c.in-Some.is _ _ _ c.write-pen.ensures.0 c.write-pen.ensures.1 c.one_more-q.ensures

pub shape_of-numbers-in_default : goal.shape_of-numbers-in_default
shape_of-numbers-in_default c = c.loop-at.invariant.long

pub returns-in_default : goal.returns-in_default
returns-in_default c =
    let l = c.loop-at in
    let a = c.args in
    gathering_stop a.v.values _ a.t.now l.at _ _ _ _ _ l.q c.worth_of.result l.invariant c.loop-at-test.true c.find-next.ensures
    (rw (c.without_leading-text.ensures, c.part.ensures) at c.worth_of.ensures) c.in_default.is

pub shape_of-numbers : goal.shape_of-numbers
shape_of-numbers c = c.loop-at.invariant.long

pub returns : goal.returns
returns c =
    let l = c.loop-at in
    let a = c.args in
    gathering_end a.v.values _ a.t.now l.at l.at _ _ _ _ l.q None l.invariant c.loop-at-test.false
