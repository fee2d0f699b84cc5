-- `reckon::quotient` meets its contract: the sizes are small enough to be divided, and no divisor is 0.
use Prim.Native.Nat.{◌+◌, ◌*◌, ◌/◌}
use mathlib.Core.Path.{sym, ap, ◌∙◌}
use lib.IntN.{nat_abs, ◌*ℤ◌}
use mir.Facts.{to_z-of_z}
use Rattle.ints.specs.Ints.{signed, is_neg}
use Rattle.reckon.specs.Rounding.{kept_of}
use Rattle.reckon.proofs.Nearest.{quotient_by_sizes, quotient_by_zero}
use Rattle.reckon.proofs.quotient.Goals as goal

pub returns-then-d-eq0 : goal.returns-then-d-eq0
returns-then-d-eq0 c = quotient_by_zero _ _ (sym (c.size-d.ensures ∙ ap nat_abs (to_z-of_z c.ranges.b)) ∙ c.if-d-eq0.true)

pub returns : goal.returns
returns c =
    let n = c.size-n.ensures ∙ ap nat_abs (to_z-of_z c.ranges.a) in
    let d = c.size-d.ensures ∙ ap nat_abs (to_z-of_z c.ranges.b) in
    let minus = c.negative_product.ensures ∙ (λ i. is_neg (to_z-of_z c.ranges.a i *ℤ to_z-of_z c.ranges.b i)) in
    c.kept.ensures
    ∙ (λ i. kept_of (signed (minus i) ((2 * (n i * 1000000) + d i) / (2 * d i))))
    ∙ quotient_by_sizes _ _ (λ e. c.if-d-eq0.false (d ∙ e))
