-- `shapes::judged_template` meets its contract: whether the parameters are as many as the template has picks the row.
-- Assumes nothing.
use Rattle.shapes.specs.Shapes.{judged_template}
use Rattle.base.proofs.Choose.{row_holds, row_fails}
use mathlib.Core.Path.{refl, sym, ◌∙◌}
use Rattle.shapes.proofs.judged_template.Goals as goal

pub returns-then-template_fits : goal.returns-then-template_fits
unfolding judged_template
returns-then-template_fits c = row_holds _ (sym c.template_fits.ensures ∙ c.if-template_fits.true) (rw (c.index-then-template_fits.ensures, c.index.ensures) refl)

pub returns : goal.returns
unfolding judged_template
returns c = row_fails _ (sym c.template_fits.ensures ∙ c.if-template_fits.false) refl
