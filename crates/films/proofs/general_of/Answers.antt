-- `films::general_of` meets its contract: each test is that of a row of `general_of`.
-- Assumes nothing.
use mathlib.Core.Path.{sym, ◌∙◌}
use Rattle.base.proofs.Choose.{row_holds, row_fails}
use Rattle.films.specs.Words.{general_of}
use Rattle.films.proofs.general_of.Goals as goal

pub returns-then-begins : goal.returns-then-begins
unfolding general_of
returns-then-begins c = row_holds _ (sym c.begins.ensures ∙ c.if-begins.true) c.comment_of.ensures

pub returns-then-both : goal.returns-then-both
unfolding general_of
returns-then-both c =
    row_fails _ (sym c.begins.ensures ∙ c.if-begins.false) (row_holds _ (cc) c.comment_of-then-both.ensures)

pub returns : goal.returns
unfolding general_of
returns c =
    row_fails _ (sym c.begins.ensures ∙ c.if-begins.false) (row_fails _ (cc) (cc))
