-- `reckon::thermal_fits` meets its contract: the tests are those of the rule.
use mir.Facts.{to_z-of_z}
use mathlib.Core.Path.{ap, ◌∙◌}
use lib.IntN.{nat_abs}
use native.Mathlib.Omega.{arith}
use Rattle.reckon.proofs.thermal_fits.Goals as goal

pub gap_fits-requires : goal.gap_fits-requires
gap_fits-requires c =
    let e = c.size.ensures ∙ ap nat_abs (to_z-of_z c.ranges.gap) in omega (arith, c.requires)
