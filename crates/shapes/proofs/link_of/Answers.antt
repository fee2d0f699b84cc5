-- `shapes::link_of` meets its contract: by the key's lowest bit the link is the high one or the low one.
-- Assumes nothing.
use Rattle.index.specs.Tree.{link_word}
use borrow.Author.Tests.{eq-eqb, ne_eqb}
use mathlib.Core.Path.{◌∙◌}
use Rattle.shapes.proofs.link_of.Goals as goal

pub returns-then-key-eq1 : goal.returns-then-key-eq1
unfolding link_word
returns-then-key-eq1 c = rw (eq-eqb _ _ c.if-key-eq1.true) (c.index.ensures ∙ c.word_at.ensures)

pub returns : goal.returns
unfolding link_word
returns c = rw (ne_eqb _ _ c.if-key-eq1.false) (c.index-2.ensures ∙ c.word_at-2.ensures)
