use Rattle.faults.specs.Rule.{number_told}
use Rattle.faults.proofs.Rules.{fine_told, err_told}
use Rattle.macros.proofs.Working.{working_starts, working_goes, working_stops, working_ends}
use Rattle.macros.proofs.Laid.{length_laid}
use Rattle.text.proofs.First.{first_from_lem}
use lib.Dec.{eqb}
use lib.ListN.{length}
use mathlib.Core.Path.{refl, sym, ap, ◌∙◌}
use Prim.Native.Char.{code}
use Prim.Native.Nat.{◌+◌}
use native.Mathlib.Omega.{arith}
use Rattle.macros.proofs.blocks.Goals as goal

pub loop-at-init : goal.loop-at-init
unfolding number_told
loop-at-init c = working_starts _ _ _ _ refl refl c.requires

pub overflow_add-at : goal.overflow_add-at
overflow_add-at c = omega arith

pub overflow_add-at-in-loop-at : goal.overflow_add-at-in-loop-at
overflow_add-at-in-loop-at c = omega arith

pub block-d-requires : goal.block-d-requires
block-d-requires c = c.loop-at.invariant.small

pub loop-at-smaller : goal.loop-at-smaller
loop-at-smaller c =
    let l = c.loop-at in
    omega (arith, first_from_lem (λ b. eqb b (code "*")) c.args.s.now (l.at + 1), c.find-next.ensures)

pub loop-at-preserved : goal.loop-at-preserved
loop-at-preserved c =
    let l = c.loop-at in
    let s = c.args.s.now in
    rw c.find-next.ensures
    (working_goes _ s l.at _ _ _ l.d l.invariant _ c.block-d.result c.loop-at-test.true (rw (c.part.ensures, c.find-next.ensures) at c.block-d.ensures) (fine_told _ (sym c.is_err.ensures.value ∙ c.if-is_err.false)))

pub shape_of-numbers-then-is_err : goal.shape_of-numbers-then-is_err
shape_of-numbers-then-is_err c = ap length c.block-d.ensures.stores ∙ length_laid _ _ _ ∙ c.loop-at.invariant.long

pub returns-then-is_err : goal.returns-then-is_err
returns-then-is_err c =
    let l = c.loop-at in
    let s = c.args.s.now in
    working_stops _ s l.at _ _ _ l.d l.invariant _ c.block-d.result c.loop-at-test.true (rw (c.part.ensures, c.find-next.ensures) at c.block-d.ensures) (err_told _ (sym c.is_err.ensures.value ∙ c.if-is_err.true))

pub shape_of-numbers : goal.shape_of-numbers
shape_of-numbers c = c.loop-at.invariant.long

pub returns : goal.returns
returns c =
    let l = c.loop-at in
    working_ends _ c.args.s.now l.at _ _ _ l.d l.invariant c.loop-at-test.false
