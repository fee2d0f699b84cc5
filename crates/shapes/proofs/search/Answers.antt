use Rattle.shapes.proofs.Leading.{lead_none, lead_past, lead_here, lead_end, lead_on, led_none, led_some}
use Rattle.shapes.specs.Links.{led_from}
use native.Mathlib.Omega.{arith}
use mathlib.Core.Path.{◌≡◌, sym, ap, ◌∙◌}
use Prim.Native.Nat.{ℕ, ◌-◌, ◌<◌, ◌+◌}
use Rattle.shapes.proofs.search.Goals as goal

pub returns-then-used-eq0 : goal.returns-then-used-eq0
returns-then-used-eq0 c = sym (led_none _ _ _ c.if-used-eq0.true)

pub loop-step-init : goal.loop-step-init
loop-step-init c = sym (led_some _ _ _ c.if-used-eq0.false)

pub returns-then-at-used : goal.returns-then-at-used
returns-then-at-used c = let l = c.loop-step in sym (lead_past _ _ _ (32 - l.step) l.at l.key c.if-at-used.true) ∙ l.invariant

pub overflow_mul-at : goal.overflow_mul-at
overflow_mul-at c = omega (arith, c.if-at-used.false, c.requires)

pub returns-then-word_at-number : goal.returns-then-word_at-number
returns-then-word_at-number c = let l = c.loop-step in sym (lead_here _ _ _ (32 - l.step) l.at l.key (let t = c.loop-step-test.true in let p : 0 < 32 - l.step = omega arith in p) c.if-at-used.false (sym c.word_at.ensures ∙ c.if-word_at-number.true)) ∙ l.invariant

pub link_of-to-requires : goal.link_of-to-requires
link_of-to-requires c = omega (arith, c.if-at-used.false, c.requires)

pub returns-then-to-eq0 : goal.returns-then-to-eq0
returns-then-to-eq0 c = let l = c.loop-step in sym (lead_end _ _ _ (32 - l.step) l.at l.key (let t = c.loop-step-test.true in let p : 0 < 32 - l.step = omega arith in p) c.if-at-used.false (λ q. c.if-word_at-number.false (c.word_at.ensures ∙ q)) (sym c.link_of-to.ensures ∙ c.if-to-eq0.true)) ∙ l.invariant

pub loop-step-preserved : goal.loop-step-preserved
loop-step-preserved c =
    let l = c.loop-step in
    let a = c.args in
    let t = c.loop-step-test.true in
    let p : 0 < 32 - l.step = omega arith in
    let q : 32 - (l.step + 1) ≡ 32 - l.step - 1 = omega arith in
    rw (q, c.link_of-to.ensures) (sym (lead_on a.a.now a.used a.number (32 - l.step) l.at l.key p c.if-at-used.false (λ q. c.if-word_at-number.false (c.word_at.ensures ∙ q)) (λ q. c.if-to-eq0.false (c.link_of-to.ensures ∙ q))) ∙ l.invariant)

pub returns : goal.returns
returns c =
    let l = c.loop-step in
    let a = c.args in
    let t = c.loop-step-test.false in
    let z : 32 - l.step ≡ 0 = omega arith in
    sym (ap (λ (s : ℕ). led_from a.a.now a.used a.number s l.at l.key) z ∙ lead_none a.a.now a.used a.number l.at l.key) ∙ l.invariant
