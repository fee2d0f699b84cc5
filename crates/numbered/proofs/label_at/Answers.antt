-- `numbered::label_at` meets its contract: the book that is named answers, or none does.
-- Assumes nothing.
use mathlib.Core.Path.{sym, ◌∙◌}
use Rattle.numbered.proofs.Choices.{label_at_by_lem, label_at_none}
use Rattle.numbered.proofs.label_at.Goals as goal

pub returns-in-Some : goal.returns-in-Some
returns-in-Some c = c.label_at.ensures ∙ label_at_by_lem (sym c.choice_of.ensures ∙ c.in-Some.is) _ _

pub returns-in-None : goal.returns-in-None
returns-in-None c = c.refused.ensures ∙ label_at_none (sym c.choice_of.ensures ∙ c.in-None.is) _ _
