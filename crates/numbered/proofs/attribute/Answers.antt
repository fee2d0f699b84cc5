-- `numbered::attribute` meets its contract: the book that is named answers, or none does.
-- Assumes nothing.
use mathlib.Core.Path.{sym, ◌∙◌}
use Rattle.numbered.proofs.Choices.{attribute_by_lem, attribute_none}
use Rattle.numbered.proofs.attribute.Goals as goal

pub returns-in-Some : goal.returns-in-Some
returns-in-Some c = c.attribute.ensures ∙ attribute_by_lem (sym c.choice_of.ensures ∙ c.in-Some.is) _ _ _ _

pub returns-in-None : goal.returns-in-None
returns-in-None c = attribute_none (sym c.choice_of.ensures ∙ c.in-None.is) _ _ _ _
