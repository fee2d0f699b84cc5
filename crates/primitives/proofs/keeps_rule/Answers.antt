-- `primitives::keeps_rule` meets its contract: each test is that of a row of `keeps`.
-- Assumes nothing.
use Rattle.primitives.specs.Rules.{keeps}
use Rattle.base.proofs.Choose.{row_holds, row_fails}
use borrow.Author.Tests.{eq-eqb, ne_eqb}
use mathlib.Core.Path.{refl}
use Rattle.primitives.proofs.keeps_rule.Goals as goal

pub returns-then-code-eq1 : goal.returns-then-code-eq1
unfolding keeps
returns-then-code-eq1 c = (row_holds _ (eq-eqb _ _ c.if-code-eq1.true) c.is_circle.ensures)

pub returns-then-code-eq4 : goal.returns-then-code-eq4
unfolding keeps
returns-then-code-eq4 c =
    (row_fails _ (ne_eqb _ _ c.if-code-eq1.false)
    (row_holds _ (eq-eqb _ _ c.if-code-eq4.true) c.is_outline.ensures))

pub returns-then-code-eq5 : goal.returns-then-code-eq5
unfolding keeps
returns-then-code-eq5 c =
    (row_fails _ (ne_eqb _ _ c.if-code-eq1.false)
    (row_fails _ (ne_eqb _ _ c.if-code-eq4.false)
    (row_holds _ (eq-eqb _ _ c.if-code-eq5.true) c.is_polygon.ensures)))

pub returns-then-code-eq7 : goal.returns-then-code-eq7
unfolding keeps
returns-then-code-eq7 c =
    (row_fails _ (ne_eqb _ _ c.if-code-eq1.false)
    (row_fails _ (ne_eqb _ _ c.if-code-eq4.false)
    (row_fails _ (ne_eqb _ _ c.if-code-eq5.false)
    (row_holds _ (eq-eqb _ _ c.if-code-eq7.true) c.is_thermal.ensures))))

pub returns-then-code-eq20 : goal.returns-then-code-eq20
unfolding keeps
returns-then-code-eq20 c =
    (row_fails _ (ne_eqb _ _ c.if-code-eq1.false)
    (row_fails _ (ne_eqb _ _ c.if-code-eq4.false)
    (row_fails _ (ne_eqb _ _ c.if-code-eq5.false)
    (row_fails _ (ne_eqb _ _ c.if-code-eq7.false)
    (row_holds _ (eq-eqb _ _ c.if-code-eq20.true) c.is_vector_line.ensures)))))

pub returns-then-code-eq21 : goal.returns-then-code-eq21
unfolding keeps
returns-then-code-eq21 c =
    (row_fails _ (ne_eqb _ _ c.if-code-eq1.false)
    (row_fails _ (ne_eqb _ _ c.if-code-eq4.false)
    (row_fails _ (ne_eqb _ _ c.if-code-eq5.false)
    (row_fails _ (ne_eqb _ _ c.if-code-eq7.false)
    (row_fails _ (ne_eqb _ _ c.if-code-eq20.false)
    (row_holds _ (eq-eqb _ _ c.if-code-eq21.true) c.is_center_line.ensures))))))

pub returns : goal.returns
unfolding keeps
returns c =
    (row_fails _ (ne_eqb _ _ c.if-code-eq1.false)
    (row_fails _ (ne_eqb _ _ c.if-code-eq4.false)
    (row_fails _ (ne_eqb _ _ c.if-code-eq5.false)
    (row_fails _ (ne_eqb _ _ c.if-code-eq7.false)
    (row_fails _ (ne_eqb _ _ c.if-code-eq20.false)
    (row_fails _ (ne_eqb _ _ c.if-code-eq21.false)
    refl))))))
