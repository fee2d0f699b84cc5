use Prim.Native.Char.{code}
use Prim.Native.Nat.{◌+◌, ◌-◌}
use mathlib.Core.Path.{refl, ap, ◌∙◌}
use native.Mathlib.Omega.{arith}
use lib.Dec.{eqb}
use Rattle.text.proofs.First.{first_from_lem}
use Rattle.command.specs.Numbers.{size_of}
use Rattle.macros.proofs.Gathering.{gathering_starts}
use Rattle.definition_steps.proofs.Gathered.{standard_step, standard_end}
use Rattle.definition_steps.proofs.standard.Goals as goal

pub loop-at-init : goal.loop-at-init
loop-at-init c = gathering_starts _ _ _ _ _ c.nothing-q.ensures

pub overflow_add-at : goal.overflow_add-at
overflow_add-at c = omega arith

pub overflow_add-at-in-loop-at : goal.overflow_add-at-in-loop-at
overflow_add-at-in-loop-at c = omega arith

pub one_more-q-requires : goal.one_more-q-requires
one_more-q-requires c =
    omega (arith, c.loop-at.invariant.counted, c.loop-at-test.true)

pub loop-at-smaller : goal.loop-at-smaller
loop-at-smaller c =
    let l = c.loop-at in
    omega (arith, first_from_lem (λ b. eqb b (code "X")) c.args.t.now (l.at + 1), c.find-next.ensures)

pub loop-at-preserved : goal.loop-at-preserved
loop-at-preserved c =
    let l = c.loop-at in
    standard_step c.args.t.now l.at _ _ _ _ _ l.q l.invariant c.loop-at-test.true c.find-next.ensures _
    (ap (λ d. d.value) (c.size_of-d.ensures ∙ ap size_of c.part.ensures)) _ _ _ c.write-pen.ensures.0 c.write-pen.ensures.1 c.one_more-q.ensures

pub shape_of-numbers : goal.shape_of-numbers
shape_of-numbers c = c.loop-at.invariant.long

pub returns : goal.returns
returns c =
    let l = c.loop-at in
    let a = c.args in
    standard_end a.t.now l.at l.at _ _ _ _ l.q l.invariant c.loop-at-test.false a.kind a.used refl _ c.keeps_rule.ensures _ c.verdict-verdict.ensures _ c.answered.ensures
