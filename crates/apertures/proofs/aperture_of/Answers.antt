-- `apertures::aperture_of` meets its contract: its first letters pick the case of `aperture_of`.
-- Assumes nothing.
use Rattle.apertures.specs.Definitions.{aperture_of}
use Rattle.base.proofs.Choose.{row_holds, row_fails}
use mathlib.Core.Path.{refl, sym, ◌∙◌}
use Rattle.apertures.proofs.aperture_of.Goals as goal

pub returns-then-begins : goal.returns-then-begins
unfolding aperture_of
returns-then-begins c = row_holds _ (sym c.begins.ensures ∙ c.if-begins.true) (simp (c.defined.ensures, c.find-q.ensures, c.past_digits-p.ensures))

pub returns : goal.returns
unfolding aperture_of
returns c = row_fails _ (sym c.begins.ensures ∙ c.if-begins.false) refl
