use Rattle.shapes.proofs.Wholes.{whole_ends, whole_list, whole_on, drop_step, drop_none}
use Rattle.shapes.specs.Runs.{Whole}
use Rattle.shapes.specs.Primitives.{behind}
use Rattle.shapes.proofs.Cutting.{behind_is}
use native.Mathlib.Omega.{arith}
use lib.ListN.{drop}
use mathlib.Core.Path.{◌≡◌, refl, sym, ap, ◌∙◌}
use Prim.Native.Nat.{◌+◌, ◌-◌, ◌<◌}
use Rattle.shapes.proofs.skip.Goals as goal

pub loop-j-init : goal.loop-j-init
loop-j-init c = let z : c.args.i - 0 ≡ c.args.i = omega arith in (c.requires, rw z refl)

pub primitive_at-p-requires : goal.primitive_at-p-requires
primitive_at-p-requires c = omega (arith, c.if-at-end.false, c.loop-j.invariant.0.inside)

pub overflow_add-at : goal.overflow_add-at
overflow_add-at c =
    let next : let p = c.primitive_at-p.result in p.first + p.count ≡ behind c.args.numbers.now c.loop-j.at =
    let p = c.primitive_at-p.ensures.0 in
    (λ i. (p i).first + (p i).count) ∙ behind_is c.args.numbers.now c.loop-j.at in
    let on : Whole c.args.numbers.now (behind c.args.numbers.now c.loop-j.at) c.args.end =
    whole_on _ _ _ c.if-at-end.false c.loop-j.invariant.0 in
    omega (arith, next, on.ordered)

pub loop-j-preserved : goal.loop-j-preserved
loop-j-preserved c =
    let next : let p = c.primitive_at-p.result in p.first + p.count ≡ behind c.args.numbers.now c.loop-j.at =
    let p = c.primitive_at-p.ensures.0 in
    (λ i. (p i).first + (p i).count) ∙ behind_is c.args.numbers.now c.loop-j.at in
    let on : Whole c.args.numbers.now (behind c.args.numbers.now c.loop-j.at) c.args.end =
    whole_on _ _ _ c.if-at-end.false c.loop-j.invariant.0 in
    let l = c.loop-j in
    let a = c.args in
    let t = c.loop-j-test.true in
    let some : 0 < a.i - l.j = omega arith in
    let q : a.i - (l.j + 1) ≡ a.i - l.j - 1 = omega arith in
    let all = whole_list a.numbers.now l.at a.end c.if-at-end.false l.invariant.0 in
    rw (q, next) (on, sym (drop_step (a.i - l.j) _ _ some) ∙ sym (ap (drop (a.i - l.j)) all) ∙ l.invariant.1)

pub returns-then-at-end : goal.returns-then-at-end
returns-then-at-end c =
    let l = c.loop-j in
    let a = c.args in
    let e = whole_ends a.numbers.now l.at a.end c.if-at-end.true in
    (l.invariant.0, e ∙ sym (drop_none (a.i - l.j)) ∙ sym (ap (drop (a.i - l.j)) e) ∙ l.invariant.1)

pub returns-after-loop-j : goal.returns-after-loop-j
returns-after-loop-j c =
    let l = c.loop-j in
    let t = c.loop-j-test.false in
    let z : c.args.i - l.j ≡ 0 = omega arith in
    (l.invariant.0, rw z at l.invariant.1)
