-- Outside a region no contour is drawn.
-- Assumes nothing.
use mathlib.Core.Path.{◌≡◌, sym, ◌∙◌}
use mathlib.Core.Bool.{true, false, false≢true}
use Rattle.law_reading.specs.State.{State}
use Rattle.progress.specs.Lent.{Lent}
use Rattle.progress.specs.Knows.{Knows}
use Rattle.progress.specs.declared.Progress.{Progress}

pub no_contour : (w : Lent) (p : Progress) (s : State) → Knows w p s → s.graphics.region.on ≡ false → s.graphics.region.contour ≡ true → ⊥
no_contour w p s k outside drawn = false≢true (sym outside ∙ k.inside drawn)
