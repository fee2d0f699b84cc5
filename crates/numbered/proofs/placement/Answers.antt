-- `numbered::placement` meets its contract: the book that is named lists, or none does and the list and the stores are cleared.
-- Assumes nothing.
use mathlib.Core.Path.{refl, sym, ◌∙◌}
use Rattle.progress.specs.Lent.{lent_of}
use Rattle.numbered.proofs.Places.{places_by, places_none}
use Rattle.numbered.proofs.placement.Goals as goal

pub returns-in-Some : goal.returns-in-Some
unfolding lent_of
returns-in-Some c =
    places_by (lent_of _ _ _ _ _) (lent_of _ _ _ _ _) _ _ _ _ _ (sym c.choice_of.ensures ∙ c.in-Some.is) c.placement.ensures

pub returns-in-None : goal.returns-in-None
unfolding lent_of
returns-in-None c =
    let z = c.clear.ensures in
    places_none (lent_of _ _ _ _ _) (lent_of _ _ _ _ _) _ _ _ _ _ (sym c.choice_of.ensures ∙ c.in-None.is) c.refused.ensures c.clear_bytes.ensures
    (record { head_is = refl; entries_are = z.0; apertures_are = z.1; macros_are = z.2; numbers_are = z.3 })
