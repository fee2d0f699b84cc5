-- `steps::define` meets its contract: AD leaves the macros as they are, AM all but them.
-- Assumes nothing.
use mathlib.Core.Path.{◌≡◌, refl, subst}
use Rattle.law_bounds.specs.Bounded.{DefinitionBounded}
use Rattle.law_reading.specs.Steps.{definition_step}
use Rattle.definition_steps.specs.Lends.{Lends}
use Rattle.steps.proofs.Arms.{known_of, keeps_macros, keeps_others}
use Rattle.steps.proofs.define.Goals as goal

pub define-requires : goal.define-requires
unfolding DefinitionBounded
define-requires c =
    (c.requires.0, c.requires.1, c.requires.2, subst (DefinitionBounded _) c.in-Aperture.is c.requires.3)

pub add_macro-requires : goal.add_macro-requires
unfolding DefinitionBounded
add_macro-requires c =
    (known_of (Lends _ _ _ _) (λ w. (w.file ≡ _) × (w.macros ≡ _)) _ (λ w q. (q.file_is, q.macros_are)) c.requires.0, c.requires.1, c.requires.2, subst (DefinitionBounded _) c.in-Macro.is c.requires.3)

pub returns-in-Aperture : goal.returns-in-Aperture
unfolding definition_step
returns-in-Aperture c =
    (c.define.ensures.0, refl, c.define.ensures.1, λ w s q k. keeps_macros w _ _ _ _ _ q.macros_are (rw c.in-Aperture.is (c.define.ensures.2 w s q k)))

pub returns-in-Macro : goal.returns-in-Macro
unfolding definition_step
returns-in-Macro c = (refl, c.add_macro.ensures.0, refl, λ w s q k. keeps_others w _ _ _ _ _ q.apertures_are q.numbers_are (rw c.in-Macro.is (c.add_macro.ensures.1 w s (q.file_is, q.macros_are) k)))
