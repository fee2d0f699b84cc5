use Prim.Native.Nat.{ℕ, ◌-◌}
use mathlib.Core.Path.{◌≡◌, refl, ◌∙◌, subst}
use native.Mathlib.Omega.{arith}
use Rattle.seeing.proofs.Sights.{few_items}
use Rattle.passes.proofs.Pins.{Linking, linking_start, linking_end, meets_other, meets_pin, meets_full}
use Rattle.passes.proofs.link_pins.Goals as goal

pub loop-k-init : goal.loop-k-init
loop-k-init c = (refl, refl, omega arith, λ l sound g. linking_start l g)

pub see-s-requires : goal.see-s-requires
see-s-requires c = (c.requires, omega arith)

pub word_of-requires : goal.word_of-requires
word_of-requires c = omega arith

pub shape_of-names-then-links-pins : goal.shape_of-names-then-links-pins
shape_of-names-then-links-pins c = c.loop-k.invariant.0

pub shape_of-pins-then-links-pins : goal.shape_of-pins-then-links-pins
shape_of-pins-then-links-pins c = c.loop-k.invariant.1

pub returns-then-links-pins : goal.returns-then-links-pins
returns-then-links-pins c =
    λ l sound g. let i = c.loop-k.invariant in meets_full l sound (i.3 l sound g) c.loop-k-test.true (omega arith) (c.see-s.ensures l) c.pin_of-d.ensures c.word_of.ensures c.if-word_of-eq1.true c.if-links-pins.true

pub put_link-requires : goal.put_link-requires
put_link-requires c = c.if-links-pins.false

pub overflow_add-links : goal.overflow_add-links
overflow_add-links c =
    let m = c.loop-k.invariant.2 in let f = few_items c.requires in omega arith

pub loop-k-preserved-then-word_of-eq1 : goal.loop-k-preserved-then-word_of-eq1
loop-k-preserved-then-word_of-eq1 c =
    let t = c.loop-k-test.true in let i = c.loop-k.invariant in let n = c.put_link.auto.names in let p = c.put_link.auto.pins in let r = c.if-links-pins.false in let m = i.2 in (n ∙ i.0, p ∙ i.1, (omega arith), λ l sound g. meets_pin l sound (i.3 l sound g) c.loop-k-test.true (omega arith) (c.see-s.ensures l) c.pin_of-d.ensures c.word_of.ensures c.if-word_of-eq1.true r c.put_link.ensures.0 c.put_link.ensures.1)

pub loop-k-preserved : goal.loop-k-preserved
loop-k-preserved c =
    let t = c.loop-k-test.true in let i = c.loop-k.invariant in let m = i.2 in (i.0, i.1, omega arith, λ l sound g. meets_other l sound (i.3 l sound g) c.loop-k-test.true (omega arith) (c.see-s.ensures l) c.pin_of-d.ensures c.word_of.ensures c.if-word_of-eq1.false)

pub shape_of-names : goal.shape_of-names
shape_of-names c = c.loop-k.invariant.0

pub shape_of-pins : goal.shape_of-pins
shape_of-pins c = c.loop-k.invariant.1

pub returns : goal.returns
returns c = λ l sound g. let i = c.loop-k.invariant in linking_end l (subst (λ (x : ℕ). Linking l c.loop-k.names c.loop-k.pins c.loop-k.links x) (let t = c.loop-k-test.false in let z : c.loop-k.k ≡ 0 = omega arith in z) (i.3 l sound g))
