-- `numbered::signature` meets its contract: the book that is named answers, or none does.
-- Assumes nothing.
use mathlib.Core.Path.{sym, ◌∙◌}
use Rattle.numbered.proofs.Choices.{signature_by_lem, signature_none}
use Rattle.numbered.proofs.signature.Goals as goal

pub returns-in-Some : goal.returns-in-Some
returns-in-Some c = c.check.ensures ∙ signature_by_lem (sym c.choice_of.ensures ∙ c.in-Some.is) _

pub returns-in-None : goal.returns-in-None
returns-in-None c = c.refuse.ensures ∙ signature_none (sym c.choice_of.ensures ∙ c.in-None.is) _
