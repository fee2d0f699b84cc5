-- `definition_steps::aperture_with` meets its contract: the record that the search found, field by field.
-- Assumes nothing.
use mathlib.Core.Path.{sym, ◌∙◌}
use native.Mathlib.Omega.{arith}
use Rattle.graphics.specs.Graphics.{no_aperture}
use Rattle.law_reading.specs.Apertures.{selected}
use Rattle.progress.specs.Tables.{as_stored}
use Rattle.progress.proofs.Apertures.{at_below}
use Rattle.definition_steps.specs.Chosen.{chosen_by}
use Rattle.definition_steps.proofs.aperture_with.Goals as goal

pub returns-in_default : goal.returns-in_default
unfolding chosen_by no_aperture
returns-in_default c = rw (← c.search_number-found.ensures, c.in_default.is)

pub aperture_at-r-requires : goal.aperture_at-r-requires
aperture_at-r-requires c =
    let a = c.args in
    let l = at_below a.a.now a.used a.n c.in-Ok.i (sym c.search_number-found.ensures ∙ c.in-Ok.is) in
    omega (arith, l, c.requires.tree.inside)

pub returns : goal.returns
unfolding chosen_by as_stored selected
returns c =
    rw (← c.search_number-found.ensures, c.in-Ok.is, ← c.aperture_at-r.ensures, ← c.both.ensures, ← c.both-2.ensures)
