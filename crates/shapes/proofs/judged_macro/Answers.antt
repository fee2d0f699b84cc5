-- `shapes::judged_macro` meets its contract: what its numbers are picks the case.
-- Assumes nothing.
use Rattle.shapes.specs.Shapes.{judged_macro}
use mathlib.Core.Path.{sym, ◌∙◌}
use Rattle.shapes.proofs.judged_macro.Goals as goal

pub returns-in-Some : goal.returns-in-Some
unfolding judged_macro
returns-in-Some c = rw (sym (rw (c.index-count.ensures, c.index-first.ensures) at c.count_of.ensures) ∙ c.in-Some.is, c.index-count.ensures, c.index-first.ensures)

pub returns-in-None : goal.returns-in-None
unfolding judged_macro
returns-in-None c = rw (sym (rw (c.index-count.ensures, c.index-first.ensures) at c.count_of.ensures) ∙ c.in-None.is)
