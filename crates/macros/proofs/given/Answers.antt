use Rattle.macros.specs.Given.{variables_of}
use Rattle.macros.proofs.Settled.{fits_set, fits_none, given_next, given_end}
use Rattle.expression.proofs.Sizes.{sized_small}
use Rattle.text.proofs.First.{first_from_lem}
use lib.Dec.{eqb}
use lib.ListN.{set}
use mathlib.Core.Path.{◌≡◌, refl, sym, ap, ◌∙◌}
use Prim.Native.Char.{code}
use Prim.Native.Nat.{ℕ, ◌+◌, ◌-◌}
use native.Mathlib.Omega.{arith}
use Rattle.macros.proofs.given.Goals as goal

pub loop-at-init : goal.loop-at-init
unfolding variables_of
loop-at-init c = (refl, fits_none 64, omega arith)

pub overflow_add-at : goal.overflow_add-at
overflow_add-at c = omega arith

pub overflow_add-at-in-loop-at : goal.overflow_add-at-in-loop-at
overflow_add-at-in-loop-at c = omega arith

pub overflow_add-i : goal.overflow_add-i
overflow_add-i c = omega (arith, c.loop-at.invariant.2, c.loop-at-test.true)

pub overflow_add-i-in-loop-at : goal.overflow_add-i-in-loop-at
overflow_add-i-in-loop-at c =
    omega (arith, c.loop-at.invariant.2, c.loop-at-test.true)

pub loop-at-smaller : goal.loop-at-smaller
loop-at-smaller c =
    let l = c.loop-at in
    omega (arith, first_from_lem (λ b. eqb b (code "X")) c.args.s.now (l.at + 1), c.find-next.ensures)

pub loop-at-preserved : goal.loop-at-preserved
loop-at-preserved c =
    let l = c.loop-at in
    let s = c.args.s.now in
    let k : l.i + 1 - 1 ≡ l.i = omega arith in
    let e = c.assigned-v.ensures ∙ ap (λ (j : ℕ). set l.v.values j c.size_of-d.result.value.millionths) k in
    let z = c.size_of-d.ensures in (
      rw (e, z, c.part.ensures, c.find-next.ensures) (sym (given_next (code "X") s l.at l.i l.v.values c.loop-at-test.true) ∙ l.invariant.0),
      rw (e, z) (fits_set l.v.values l.i _ l.invariant.1 (sized_small _).size),
      omega (arith, first_from_lem (λ b. eqb b (code "X")) s (l.at + 1), c.find-next.ensures, l.invariant.2),
    )

pub returns : goal.returns
returns c =
    let l = c.loop-at in
    (sym (given_end (code "X") _ l.at l.i l.v.values c.loop-at-test.false) ∙ l.invariant.0, l.invariant.1)
