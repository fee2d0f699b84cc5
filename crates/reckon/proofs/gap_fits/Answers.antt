-- `reckon::gap_fits` meets its contract: both products are exact, and the gap times twice the gap is twice its square.
use Prim.Native.Nat.{◌+◌, ◌*◌}
use mathlib.Core.Path.{◌≡◌}
use Rattle.reckon.specs.Thermal.{gap_fits}
use native.Mathlib.Omega.{arith}
use Rattle.reckon.proofs.gap_fits.Goals as goal

pub returns : goal.returns
unfolding gap_fits
returns c = let g = c.args.gap in
    let m : g * (g + g) ≡ 2 * (g * g) = omega arith in
    cc
