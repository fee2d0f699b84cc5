use mathlib.Core.Path.{◌≡◌, refl, ◌∙◌}
use native.Mathlib.Omega.{arith}
use Rattle.summary.proofs.Put.{rows_none, rows_more}
use Rattle.summary.proofs.put_rows.Goals as goal

pub loop-b-init : goal.loop-b-init
loop-b-init c = (omega arith, refl, c.requires.2 ∙ rows_none _ _)

pub overflow_mul-b : goal.overflow_mul-b
overflow_mul-b c = let w = c.requires.1 in let t = c.loop-b-test.true in omega arith

pub kept_row-requires : goal.kept_row-requires
kept_row-requires c = let w = c.requires.0 in let t = c.loop-b-test.true in omega arith

pub put_row-requires : goal.put_row-requires
put_row-requires c =
    let i = c.loop-b.invariant in let w = c.requires.1 in let t = c.loop-b-test.true in omega arith

pub loop-b-preserved : goal.loop-b-preserved
loop-b-preserved c =
    let i = c.loop-b.invariant in
    let w = c.requires.1 in
    let t = c.loop-b-test.true in (
      omega arith,
      c.put_row.auto.out ∙ i.1,
      rw (i.2, c.kept_row.ensures) at c.put_row.ensures ∙ rows_more _ _ _ (omega arith),
    )

pub shape_of-out : goal.shape_of-out
shape_of-out c = c.loop-b.invariant.1

pub returns : goal.returns
returns c = let i = c.loop-b.invariant in let z : c.loop-b.b ≡ c.args.n = omega (arith, c.loop-b-test.false) in rw z at i.2
