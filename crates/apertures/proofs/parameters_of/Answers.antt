use Rattle.apertures.proofs.Gathered.{gather_next, gather_end}
use Rattle.apertures.specs.Parameters.{more, parameters_of}
use Rattle.command.proofs.Rounded.{counted_within}
use Rattle.text.proofs.First.{first_from_lem}
use native.Mathlib.Omega.{arith}
use lib.Dec.{eqb}
use mathlib.Core.Path.{refl, sym, ◌∙◌}
use Prim.Native.Char.{code}
use Prim.Native.Nat.{◌-◌, ◌+◌}
use Rattle.apertures.proofs.parameters_of.Goals as goal

pub loop-at-init : goal.loop-at-init
unfolding parameters_of
loop-at-init c = (refl, omega arith, omega arith)

pub overflow_add-at : goal.overflow_add-at
overflow_add-at c = omega arith

pub overflow_add-at-in-loop-at : goal.overflow_add-at-in-loop-at
overflow_add-at-in-loop-at c = omega arith

pub overflow_add-count : goal.overflow_add-count
overflow_add-count c = omega (arith, c.loop-at.invariant.1)

pub overflow_add-rounded : goal.overflow_add-rounded
overflow_add-rounded c = omega (arith, c.loop-at.invariant.2, counted_within c.size_of-d.result.rounded)

pub loop-at-smaller : goal.loop-at-smaller
loop-at-smaller c =
    let l = c.loop-at in
    omega (arith, first_from_lem (λ b. eqb b (code "X")) c.args.s.now (l.at + 1), c.find-next.ensures)

pub loop-at-preserved : goal.loop-at-preserved
unfolding more
loop-at-preserved c =
    let l = c.loop-at in
    let s = c.args.s.now in
    let d = c.size_of-d.result in (
      simp (c.counted-rounded.ensures, c.either-long.ensures, c.either-formless.ensures, c.size_of-d.ensures, c.part.ensures, c.find-next.ensures)
          (sym (gather_next s l.at c.loop-at-test.true (record { formless = l.formless; long = l.long; count = l.count; rounded = l.rounded })) ∙ l.invariant.0),
      omega (arith, first_from_lem (λ b. eqb b (code "X")) s (l.at + 1), c.find-next.ensures, l.invariant.1),
      omega (arith, first_from_lem (λ b. eqb b (code "X")) s (l.at + 1), c.find-next.ensures, l.invariant.2, counted_within d.rounded),
    )

pub returns : goal.returns
returns c =
    let l = c.loop-at in
    sym (gather_end _ _ c.loop-at-test.false (record { formless = l.formless; long = l.long; count = l.count; rounded = l.rounded })) ∙ l.invariant.0
