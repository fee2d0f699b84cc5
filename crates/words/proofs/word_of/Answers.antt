-- `words::word_of` meets its contract: the book's edition picks the case of `word_of`.
-- Assumes nothing.
use mathlib.Core.Path.{sym, ap, ◌∙◌}
use Rattle.base.proofs.Choose.{row_holds, row_fails}
use Rattle.words.specs.Old.{said, old_word}
use Rattle.words.specs.Words.{word_of}
use Rattle.words.proofs.word_of.Goals as goal

pub returns-then-is_old : goal.returns-then-is_old
unfolding word_of old_word
returns-then-is_old c = row_holds _ (sym c.is_old.ensures ∙ c.if-is_old.true) (c.said.ensures ∙ ap (said _ _) c.word_of.ensures)

pub returns : goal.returns
unfolding word_of
returns c = row_fails _ (sym c.is_old.ensures ∙ c.if-is_old.false) c.newer_word.ensures
