-- `numbered::mend` meets its contract: the book that is named mends, or none does and everything that is lent is cleared.
-- Assumes nothing.
use mathlib.Core.Path.{sym, ◌∙◌}
use Rattle.progress.specs.Lent.{lent_of}
use Rattle.numbered.proofs.Mends.{mends_by, mends_none}
use Rattle.numbered.proofs.mend.Goals as goal

pub returns-in-Some : goal.returns-in-Some
unfolding lent_of
returns-in-Some c =
    mends_by (lent_of _ _ _ _ _) (lent_of _ _ _ _ _) _ _ _ _ _ (sym c.choice_of.ensures ∙ c.in-Some.is) _ c.mend.ensures

pub returns-in-None : goal.returns-in-None
unfolding lent_of
returns-in-None c =
    let z = c.clear.ensures in
    mends_none (lent_of _ _ _ _ _) (lent_of _ _ _ _ _) _ _ _ _ _ (sym c.choice_of.ensures ∙ c.in-None.is) z.0 z.1
    (record { head_is = z.2; entries_are = z.3; apertures_are = z.4; macros_are = z.5; numbers_are = z.6 })
