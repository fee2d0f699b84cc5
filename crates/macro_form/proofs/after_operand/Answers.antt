-- `macro_form::after_operand` meets its contract: one more is counted, which fits.
-- Assumes nothing.
use native.Mathlib.Omega.{arith}
use Rattle.command.proofs.Rounded.{counted_within}
use Rattle.macro_form.proofs.after_operand.Goals as goal

pub overflow_add-count : goal.overflow_add-count
overflow_add-count c = omega (arith, counted_within c.args.rounded, c.counted.ensures, c.requires)
