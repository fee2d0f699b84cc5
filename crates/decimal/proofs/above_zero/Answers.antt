-- `decimal::above_zero` meets its contract: at least 0, and not 0.
use mathlib.Core.Path.{ap, ◌∙◌}
use native.Mathlib.Omega.{arith}
use lib.IntN.{pos}
use lib.Signed.{lt_z}
use Rattle.ints.proofs.Bounded.{in_bits}
use Rattle.ints.proofs.Order.{over_zero}
use Rattle.decimal.specs.Amounts.{above_zero}
use Rattle.decimal.proofs.above_zero.Goals as goal

pub returns : goal.returns
unfolding above_zero
returns c = ap (lt_z (pos 0)) (in_bits c.args.a.millionths (omega arith)) ∙ over_zero c.args.a.millionths
