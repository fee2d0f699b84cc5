-- `templates::keeps_rule` meets its contract: each test is that of a row of `keeps`.
use Rattle.templates.specs.Templates.{keeps}
use Rattle.base.proofs.Choose.{row_holds, row_fails}
use borrow.Author.Tests.{eq-eqb, ne_eqb}
use mathlib.Core.Path.{refl}
use Rattle.templates.proofs.keeps_rule.Goals as goal

pub returns-then-kind-eq1 : goal.returns-then-kind-eq1
unfolding keeps
returns-then-kind-eq1 c =
    (row_holds _ (eq-eqb _ _ c.if-kind-eq1.true) c.is_circle.ensures)

pub returns-then-kind-eq2 : goal.returns-then-kind-eq2
unfolding keeps
returns-then-kind-eq2 c =
    (row_fails _ (ne_eqb _ _ c.if-kind-eq1.false)
    (row_holds _ (eq-eqb _ _ c.if-kind-eq2.true) c.is_rectangle.ensures))

pub returns-then-kind-eq3 : goal.returns-then-kind-eq3
unfolding keeps
returns-then-kind-eq3 c =
    (row_fails _ (ne_eqb _ _ c.if-kind-eq1.false)
    (row_fails _ (ne_eqb _ _ c.if-kind-eq2.false)
    (row_holds _ (eq-eqb _ _ c.if-kind-eq3.true) c.is_rectangle-then-kind-eq3.ensures)))

pub returns-then-kind-eq4 : goal.returns-then-kind-eq4
unfolding keeps
returns-then-kind-eq4 c =
    (row_fails _ (ne_eqb _ _ c.if-kind-eq1.false)
    (row_fails _ (ne_eqb _ _ c.if-kind-eq2.false)
    (row_fails _ (ne_eqb _ _ c.if-kind-eq3.false)
    (row_holds _ (eq-eqb _ _ c.if-kind-eq4.true) c.is_polygon.ensures))))

pub returns : goal.returns
unfolding keeps
returns c =
    (row_fails _ (ne_eqb _ _ c.if-kind-eq1.false)
    (row_fails _ (ne_eqb _ _ c.if-kind-eq2.false)
    (row_fails _ (ne_eqb _ _ c.if-kind-eq3.false)
    (row_fails _ (ne_eqb _ _ c.if-kind-eq4.false)
    refl))))
