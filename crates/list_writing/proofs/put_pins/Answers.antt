use lib.ListN.{get_or}
use Prim.Native.Nat.{ℕ, ◌+◌, ◌*◌, ◌-◌}
use mathlib.Core.Path.{◌≡◌, refl, ap, ◌∙◌}
use native.Mathlib.Omega.{arith}
use Rattle.list_writing.proofs.Walks.{step, walking_on, putting_start, putting_on, putting_end}
use Rattle.list_writing.proofs.Rows.{pin_is}
use Rattle.seeing.specs.Layer.{parts}
use Rattle.law_components.specs.Outlines.{at}
use Rattle.law_components.specs.Records.{pin_record}
use Rattle.list_writing.proofs.put_pins.Goals as goal

pub loop-link-init : goal.loop-link-init
loop-link-init c =
    (c.requires.1, refl, λ l of ks w. putting_start _ c.requires.2 w)

pub overflow_sub-link : goal.overflow_sub-link
overflow_sub-link c = let t = c.loop-link-test.true in omega arith

pub overflow_mul-j : goal.overflow_mul-j
overflow_mul-j c = let s = step c.loop-link.invariant.0.walks c.loop-link-test.true in let h = s.inside in let e = c.index-j.ensures in omega arith

pub overflow_mul-j-in-loop-link : goal.overflow_mul-j-in-loop-link
overflow_mul-j-in-loop-link c = let s = step c.loop-link.invariant.0.walks c.loop-link-test.true in let h = s.inside in let e = c.index-j.ensures in omega arith

pub overflow_add-j : goal.overflow_add-j
overflow_add-j c = let s = step c.loop-link.invariant.0.walks c.loop-link-test.true in let h = s.inside in let e = c.index-j.ensures in omega arith

pub see-s-requires : goal.see-s-requires
see-s-requires c =
    let s = step c.loop-link.invariant.0.walks c.loop-link-test.true in let h = s.below in let e = c.word_at-k.ensures ∙ ap (λ (j : ℕ). get_or c.args.w.pins.now (j * 2) 0) c.index-j.ensures in (c.requires.0, rw e h)

pub loop-link-smaller : goal.loop-link-smaller
loop-link-smaller c =
    let s = step c.loop-link.invariant.0.walks c.loop-link-test.true in let h = s.less in let e = c.word_at-link.ensures ∙ ap (λ (j : ℕ). get_or c.args.w.pins.now (j * 2 + 1) 0) c.index-j.ensures in rw e h

pub loop-link-preserved : goal.loop-link-preserved
loop-link-preserved c =
    let i = c.loop-link.invariant in let t = c.loop-link-test.true in let n = c.word_at-link.ensures ∙ ap (λ (j : ℕ). get_or c.args.w.pins.now (j * 2 + 1) 0) c.index-j.ensures in (walking_on i.0 t n, c.put_pin-q.auto.out ∙ i.1, λ l of ks w. putting_on _ (i.2 l of ks w) t c.put_pin-q.ensures (pin_is l of (c.see-s.ensures l) ∙ ap (λ (k : ℕ). pin_record (at (parts l) k)) (c.word_at-k.ensures ∙ ap (λ (j : ℕ). get_or c.args.w.pins.now (j * 2) 0) c.index-j.ensures)) n)

pub shape_of-out : goal.shape_of-out
shape_of-out c = c.loop-link.invariant.1

pub returns : goal.returns
returns c = λ l of ks w. putting_end _ (c.loop-link.invariant.2 l of ks w) (let t = c.loop-link-test.false in let z : c.loop-link.link ≡ 0 = omega arith in z)
