use mathlib.Core.Path.{◌≡◌, sym, ◌∙◌}
use native.Mathlib.Omega.{arith}
use Rattle.text.proofs.First.{first_at_lem, first_end}
use Rattle.scan.proofs.Printable.{inner_goes}
use Rattle.scan.proofs.printable_to.Goals.{then-not-is_inner+else-does_stop, else-not-is_inner}
use Rattle.scan.proofs.printable_to.Goals as goal

pub returns-then-does_stop : goal.returns-then-does_stop
returns-then-does_stop c =
    sym (first_at_lem _ _ _ c.loop-at-test.true (sym c.does_stop.ensures ∙ c.if-does_stop.true)) ∙ c.loop-at.invariant.same

pub loop-at-preserved : goal.loop-at-preserved
loop-at-preserved c = record {
  same =
      elim c.if-not-is_inner.branch [
        | then-not-is_inner+else-does_stop w ↦
            sym (first_at_lem _ _ _ c.loop-at-test.true (sym w.does_stop.ensures ∙ w.if-does_stop.false)) ∙ c.loop-at.invariant.same
        | else-not-is_inner w ↦
            sym (first_at_lem _ _ _ c.loop-at-test.true (inner_goes _ _ c.requires (sym c.is_inner.ensures ∙ w.if-not-is_inner.false)))
            ∙ c.loop-at.invariant.same
      ];
  near = omega arith;
}

pub returns : goal.returns
returns c =
    let l = c.loop-at in
    let top : c.max.result ≡ l.at = omega (arith, c.max.ensures, l.auto.at, l.invariant.near, c.loop-at-test.false) in
    top ∙ sym (first_end _ _ _ c.loop-at-test.false) ∙ l.invariant.same
