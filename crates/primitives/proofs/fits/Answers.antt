-- `primitives::fits` meets its contract: a gap below zero does not fit; for any other the rule is asked.
-- Assumes nothing.
use mir.Facts.{to_z-of_z}
use Rattle.primitives.proofs.Sizes.{nonneg_size, gap_below}
use mathlib.Core.Path.{sym, ◌∙◌}
use borrow.Author.Rules.{sfits_of}
use Rattle.primitives.proofs.fits.Goals as goal

pub thermal_fits-requires : goal.thermal_fits-requires
thermal_fits-requires c = rw (to_z-of_z (sfits_of c.struct_told-then-at_least_zero-2-1.given.0.1)) (nonneg_size c.args.gap.millionths (sym c.at_least_zero.ensures ∙ c.if-at_least_zero.true) c.struct_told-then-at_least_zero-2-1.given.0.1)

pub returns-then-at_least_zero : goal.returns-then-at_least_zero
returns-then-at_least_zero c = rw (c.thermal_fits.ensures, to_z-of_z (sfits_of c.struct_told-1.given.0.1), to_z-of_z (sfits_of c.struct_told-then-at_least_zero-1.given.0.1), to_z-of_z (sfits_of c.struct_told-then-at_least_zero-2-1.given.0.1))

pub returns : goal.returns
returns c =
    let a = c.args in
    sym (gap_below a.outer.millionths a.inner.millionths a.gap.millionths (sym c.at_least_zero.ensures ∙ c.if-at_least_zero.false))
