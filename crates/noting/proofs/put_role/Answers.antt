-- `noting::put_role` meets its contract: what the search finds, and whether there is room, pick the case.
-- Assumes nothing.
use Rattle.noting.proofs.Roles.{put_found, put_new, put_full}
use mathlib.Core.Path.{sym, ◌∙◌}
use Rattle.noting.proofs.put_role.Goals as goal

pub returns-in_default : goal.returns-in_default
returns-in_default c = put_found _ _ _ _ c.requires (sym c.search_number-found.ensures ∙ c.in_default.is)

pub returns-then-put_aperture : goal.returns-then-put_aperture
returns-then-put_aperture c =
    put_new _ _ _ _ c.requires (sym c.search_number-found.ensures ∙ c.in-Err.is) c.put_aperture.ensures.1 c.put_aperture.auto.a (sym c.put_aperture.ensures.0 ∙ c.if-put_aperture.true)

pub returns : goal.returns
returns c =
    put_full _ _ _ _ c.requires (sym c.search_number-found.ensures ∙ c.in-Err.is) c.put_aperture.ensures.1 c.put_aperture.auto.a (sym c.put_aperture.ensures.0 ∙ c.if-put_aperture.false)
