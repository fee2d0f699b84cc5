use Prim.Native.Nat.{ℕ, ◌+◌, ◌-◌, ◌*◌, ◌/◌, ◌<◌}
use mathlib.Core.Path.{◌≡◌, sym, ap, ◌∙◌}
use native.Mathlib.Omega.{arith}
use lib.ListN.{get_or}
use Rattle.summary.specs.Links.{leads_to}
use Rattle.summary.proofs.Links.{lead_end, lead_past, lead_here, lead_on, record_start}
use Rattle.summary.proofs.record_of.Goals as goal

pub loop-step-init : goal.loop-step-init
loop-step-init c = record_start _ _ _

pub returns-then-at-n : goal.returns-then-at-n
returns-then-at-n c = sym (lead_past _ _ _ _ _ _ c.if-at-n.true) ∙ c.loop-step.invariant

pub overflow_mul-at : goal.overflow_mul-at
overflow_mul-at c = omega (arith, c.requires)

pub returns-then-word_at-number : goal.returns-then-word_at-number
returns-then-word_at-number c =
    let t = c.loop-step-test.true in
    let some : 0 < 65 - c.loop-step.step = omega arith in
    sym (lead_here _ _ _ _ _ _ some c.if-at-n.false (sym c.word_at.ensures ∙ c.if-word_at-number.true)) ∙ c.loop-step.invariant

pub overflow_mul-at-in-loop-step : goal.overflow_mul-at-in-loop-step
overflow_mul-at-in-loop-step c = omega (arith, c.requires)

pub overflow_add-at : goal.overflow_add-at
overflow_add-at c = omega (arith, c.requires)

pub overflow_add-at-in-loop-step : goal.overflow_add-at-in-loop-step
overflow_add-at-in-loop-step c = omega (arith, c.index.ensures, c.requires)

pub loop-step-preserved : goal.loop-step-preserved
loop-step-preserved c =
    let A = c.args in
    let L = c.loop-step in
    let t = c.loop-step-test.true in
    let some : 0 < 65 - L.step = omega arith in
    let less : 65 - (L.step + 1) ≡ 65 - L.step - 1 = omega arith in
    let led = c.index-at.ensures ∙ c.word_at-in-loop-step.ensures ∙ ap (λ (i : ℕ). get_or A.a.now (L.at * 8 + 6 + i) 0) c.index.ensures in
    rw less (ap (λ (x : ℕ). leads_to A.a.now A.n (65 - L.step - 1) x (L.key / 2) A.number) led
    ∙ sym (lead_on A.a.now A.n (65 - L.step) L.at L.key A.number some c.if-at-n.false
    (λ q. c.if-word_at-number.false (c.word_at.ensures ∙ q)))
    ∙ L.invariant)

pub returns : goal.returns
returns c =
    let A = c.args in
    let L = c.loop-step in
    let t = c.loop-step-test.false in
    let z : 65 - L.step ≡ 0 = omega arith in
    sym (ap (λ (s : ℕ). leads_to A.a.now A.n s L.at L.key A.number) z ∙ lead_end A.a.now A.n L.at L.key A.number) ∙ L.invariant
