use Rattle.shapes.proofs.Slots.{filled_none, filled_more, filled_whole, filled_past}
use Rattle.shapes.proofs.Wholes.{whole_ends, whole_list, whole_on, list_first, list_next, list_past}
use Rattle.shapes.specs.Runs.{Whole}
use Rattle.shapes.specs.Primitives.{behind, primitives_in}
use Rattle.shapes.proofs.Cutting.{behind_is}
use native.Mathlib.Omega.{arith}
use native.Mathlib.Nat.{zero-add}
use lib.ListN.{length}
use mathlib.Core.Path.{◌≡◌, refl, sym, ◌∙◌}
use Prim.Native.Nat.{◌+◌}
use Rattle.shapes.proofs.fill.Goals as goal

pub loop-j-init : goal.loop-j-init
loop-j-init c = let w = c.requires in (omega arith, refl, w.1 ∙ filled_none _ 0 _, w.0, refl, refl)

pub shape_of-out-then-at-end : goal.shape_of-out-then-at-end
shape_of-out-then-at-end c = c.loop-j.invariant.1

pub returns-then-at-end : goal.returns-then-at-end
returns-then-at-end c =
    let l = c.loop-j in
    let a = c.args in
    let e = whole_ends a.numbers.now l.at a.end c.if-at-end.true in
    let past = list_past _ l.j (sym e ∙ l.invariant.4) in
    l.invariant.2 ∙ filled_past _ 0 _ l.j (rw l.invariant.5 at l.invariant.0) (omega arith)

pub primitive_at-p-requires : goal.primitive_at-p-requires
primitive_at-p-requires c = omega (arith, c.if-at-end.false, c.loop-j.invariant.3.inside)

pub overflow_mul-j : goal.overflow_mul-j
overflow_mul-j c = let i = c.loop-j.invariant in omega (arith, i.5, c.loop-j-test.true)

pub put-requires : goal.put-requires
put-requires c = let i = c.loop-j.invariant in omega (arith, i.1, i.5, c.loop-j-test.true)

pub overflow_add-at : goal.overflow_add-at
overflow_add-at c =
    let next : let p = c.primitive_at-p.result in
    p.first + p.count ≡ behind c.args.numbers.now c.loop-j.at =
    let p = c.primitive_at-p.ensures.0 in
    (λ i. (p i).first + (p i).count) ∙ behind_is c.args.numbers.now c.loop-j.at in
    let on : let a = c.args in
    Whole a.numbers.now (behind a.numbers.now c.loop-j.at) a.end =
    whole_on _ _ _ c.if-at-end.false c.loop-j.invariant.3 in
    omega (arith, next, on.ordered)

pub loop-j-preserved : goal.loop-j-preserved
loop-j-preserved c =
    let next : let p = c.primitive_at-p.result in
    p.first + p.count ≡ behind c.args.numbers.now c.loop-j.at =
    let p = c.primitive_at-p.ensures.0 in
    (λ i. (p i).first + (p i).count) ∙ behind_is c.args.numbers.now c.loop-j.at in
    let on : let a = c.args in
    Whole a.numbers.now (behind a.numbers.now c.loop-j.at) a.end =
    whole_on _ _ _ c.if-at-end.false c.loop-j.invariant.3 in
    let l = c.loop-j in
    let a = c.args in
    let test = c.loop-j-test.true in
    let all = whole_list a.numbers.now l.at a.end c.if-at-end.false l.invariant.3 in
    let e = sym all ∙ l.invariant.4 in
    let put = c.put in
    let q = c.primitive_at-p.ensures.0 ∙ list_first _ _ l.j _ e in (
      omega (arith, test),
      put.auto.out ∙ l.invariant.1,
      put.ensures ∙ rw (q, l.invariant.2) (rw (zero-add l.j) at (filled_more (primitives_in a.numbers.now a.from a.end).list 0 (length a.out.now) l.j (omega (arith, test, l.invariant.5)))),
      rw next on,
      rw next (list_next _ _ l.j _ e),
      l.invariant.5,
    )

pub shape_of-out : goal.shape_of-out
shape_of-out c = c.loop-j.invariant.1

pub returns : goal.returns
returns c = let i = c.loop-j.invariant in i.2 ∙ filled_whole _ 0 _ _ (omega (arith, i.0, i.5, c.loop-j-test.false))
