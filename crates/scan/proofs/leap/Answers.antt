-- `scan::leap` meets its contract: where it goes on, by `leap_same`; else nothing has changed.
-- Assumes nothing.
use mathlib.Core.Path.{sym, ◌∙◌}
use native.Mathlib.Omega.{arith}
use Rattle.fields.proofs.Macros.{only_over}
use Rattle.scan.proofs.Leaps.{leap_same, leap_inside}
use Rattle.scan.proofs.Printable.{end_low}
use Rattle.scan.proofs.leap.Goals as goal

pub printable_to-to-requires : goal.printable_to-to-requires
printable_to-to-requires c = rw c.end_of.ensures (end_low _)

pub bounds-file-to : goal.bounds-file-to
bounds-file-to c =
    omega (arith, leap_inside _ _ _ _ (sym c.printable_to-to.ensures) c.if-at-to.true, c.if-at-to.true)

pub returns-then-at-to : goal.returns-then-at-to
returns-then-at-to c =
    let h = c.if-at-to.true in
    record {
      on = omega arith;
      same =
          λ book place.
          rw c.to_stand.ensures
          (leap_same book _ place _
          (sym c.is_whole.ensures ∙ c.if-is_whole.true)
          (only_over _ (sym c.is_over.ensures ∙ c.if-is_over.true))
          _ _
          (rw c.end_of.ensures at (sym c.printable_to-to.ensures))
          h);
    }
