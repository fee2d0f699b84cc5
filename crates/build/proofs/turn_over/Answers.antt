use Rattle.build.proofs.Turning.{swapped_none, swapped_more, turned_all, turned_met}
use native.Mathlib.Omega.{arith}
use mathlib.Core.Path.{◌≡◌, ◌∙◌}
use Rattle.build.proofs.turn_over.Goals as goal

pub loop-i-init : goal.loop-i-init
loop-i-init c = let A = c.args in let p = c.requires in (omega arith, swapped_none A.e.now A.lo A.hi (omega arith), p.1, p.0)

pub overflow_sub-j : goal.overflow_sub-j
overflow_sub-j c = let v = c.loop-i.invariant in omega (arith, v.1.as_long, v.2, v.3)

pub overflow_sub-j-in-loop-i : goal.overflow_sub-j-in-loop-i
overflow_sub-j-in-loop-i c = let v = c.loop-i.invariant in omega (arith, v.1.as_long, v.2, v.3)

pub overflow_add-lo : goal.overflow_add-lo
overflow_add-lo c = let v = c.loop-i.invariant in omega (arith, v.1.as_long, v.2, v.3)

pub shape_of-e-then-lo-i : goal.shape_of-e-then-lo-i
shape_of-e-then-lo-i c = c.loop-i.invariant.1.as_long

pub returns-then-lo-i : goal.returns-then-lo-i
returns-then-lo-i c = let v = c.loop-i.invariant in turned_met _ _ _ _ _ _ v.0 v.2 (omega arith) v.1

pub overflow_add-lo-in-loop-i : goal.overflow_add-lo-in-loop-i
overflow_add-lo-in-loop-i c = let v = c.loop-i.invariant in omega (arith, v.1.as_long, v.2, v.3)

pub whole_entry-x-requires : goal.whole_entry-x-requires
whole_entry-x-requires c = let v = c.loop-i.invariant in omega (arith, v.1.as_long, v.2, v.3)

pub whole_entry-y-requires : goal.whole_entry-y-requires
whole_entry-y-requires c = let v = c.loop-i.invariant in omega (arith, v.1.as_long, v.2, v.3)

pub overflow_add-lo-in-loop-i-2 : goal.overflow_add-lo-in-loop-i-2
overflow_add-lo-in-loop-i-2 c = let v = c.loop-i.invariant in omega (arith, v.1.as_long, v.2, v.3)

pub put_entry-requires : goal.put_entry-requires
put_entry-requires c = let v = c.loop-i.invariant in omega (arith, v.1.as_long, v.2, v.3)

pub put_entry-requires-in-loop-i : goal.put_entry-requires-in-loop-i
put_entry-requires-in-loop-i c =
    let v = c.loop-i.invariant in omega (arith, v.1.as_long, v.2, v.3, c.put_entry.auto.e)

pub loop-i-preserved : goal.loop-i-preserved
loop-i-preserved c =
    let v = c.loop-i.invariant in
    let kept = c.put_entry.auto.e in
    let kept2 = c.put_entry-in-loop-i.auto.e in (
      omega arith,
      swapped_more _ _ _ _ _ _ _ _ _ v.1 (omega arith) (omega (arith, c.if-lo-i.false)) v.3 c.whole_entry-x.ensures c.whole_entry-y.ensures
          (kept2 ∙ kept ∙ v.1.as_long)
          (c.put_entry-in-loop-i.ensures ∙ rw c.put_entry.ensures) (rw c.put_entry.ensures at kept),
      v.2,
      v.3,
    )

pub shape_of-e : goal.shape_of-e
shape_of-e c = c.loop-i.invariant.1.as_long

pub returns : goal.returns
returns c = let v = c.loop-i.invariant in let l = c.loop-i in let q : l.i ≡ c.args.n = omega arith in rw q at (turned_all _ _ _ _ _ v.1)
