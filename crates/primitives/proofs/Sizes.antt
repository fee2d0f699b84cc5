-- A number that is not below zero, and fits, is below 2 ^ 63 in size. A gap below zero does not fit.
-- Assumes nothing.
use Prim.Native.Nat.{◌^◌, ◌<◌}
use mathlib.Core.Path.{◌≡◌}
use mathlib.Core.Bool.{true, false, not, false≢true}
use native.Mathlib.Omega.{arith}
use lib.IntN.{ℤ, pos, negsuc, nat_abs}
use lib.Signed.{mag, lt_z}
use Rattle.base.specs.And.{◌and◌}
use Rattle.base.proofs.And.{false_and, and_false}
use Rattle.ints.specs.Ints.{is_neg}
use Rattle.reckon.specs.Thermal.{thermal_fits}

pub nonneg_size : (z : ℤ) → not (is_neg z) ≡ true → mag z < 2 ^ 63 → nat_abs z < 2 ^ 63
unfolding is_neg
nonneg_size (pos n) e h = omega arith
nonneg_size (negsuc n) e h = absurd (false≢true e)

pub gap_below : (outer inner gap : ℤ) → not (is_neg gap) ≡ false → thermal_fits outer inner gap ≡ false
unfolding thermal_fits
gap_below outer inner gap e = rw (e, false_and) (and_false (lt_z inner outer and not (is_neg inner)))
