use Rattle.macro_form.specs.Blocks.{good, joined, block_form, blocks_form}
use Rattle.macro_form.proofs.Few.{block_few, piece}
use Rattle.macro_form.proofs.Gathered.{gather_next, gather_end}
use Rattle.text.proofs.First.{first_from_lem}
use native.Mathlib.Omega.{arith}
use lib.Dec.{eqb}
use lib.ListN.{length}
use mathlib.Core.Path.{refl, sym, ap, ◌∙◌}
use Prim.Native.Char.{code}
use Prim.Native.Nat.{◌+◌, ◌-◌, ◌≤◌}
use Rattle.macro_form.proofs.blocks.Goals as goal

pub loop-at-init : goal.loop-at-init
unfolding blocks_form good
loop-at-init c = (refl, omega arith)

pub overflow_add-at : goal.overflow_add-at
overflow_add-at c = omega arith

pub overflow_add-at-in-loop-at : goal.overflow_add-at-in-loop-at
overflow_add-at-in-loop-at c = omega arith

pub both-f-requires : goal.both-f-requires
both-f-requires c =
    let next-few : (c.block.result.rounded + (c.loop-at.at + 1) ≤ c.find-next.result) × (c.find-next.result ≤ length c.args.s.now) =
    rw (c.block.ensures, c.part.ensures) (piece block_form block_few (code "*") _ _ _ c.loop-at-test.true c.find-next.ensures) in
    let few = next-few in omega (arith, few.0, few.1, c.loop-at.invariant.1)

pub loop-at-smaller : goal.loop-at-smaller
loop-at-smaller c =
    let l = c.loop-at in
    omega (arith, first_from_lem (λ b. eqb b (code "*")) c.args.s.now (l.at + 1), c.find-next.ensures)

pub loop-at-preserved : goal.loop-at-preserved
unfolding joined
loop-at-preserved c =
    let next-few : (c.block.result.rounded + (c.loop-at.at + 1) ≤ c.find-next.result) × (c.find-next.result ≤ length c.args.s.now) =
    rw (c.block.ensures, c.part.ensures) (piece block_form block_few (code "*") _ _ _ c.loop-at-test.true c.find-next.ensures) in
    let l = c.loop-at in
    let s = c.args.s.now in
    let few = next-few in (
      rw (c.both-f.ensures, c.block.ensures, c.part.ensures, c.find-next.ensures)
          (sym (gather_next block_form (code "*") s l.at l.f c.loop-at-test.true) ∙ l.invariant.0),
      omega (arith, ap (λ x. x.rounded) c.both-f.ensures, few.0, l.invariant.1),
    )

pub returns : goal.returns
returns c =
    let l = c.loop-at in
    sym (gather_end block_form (code "*") _ l.at l.f c.loop-at-test.false) ∙ l.invariant.0
