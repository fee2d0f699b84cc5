-- `decimal::at_least_zero` meets its contract: not below 0.
use mathlib.Core.Path.{ap, ◌∙◌}
use native.Mathlib.Omega.{arith}
use lib.IntN.{pos}
use lib.Signed.{le_z}
use Rattle.ints.proofs.Bounded.{in_bits}
use Rattle.ints.proofs.Order.{least_zero}
use Rattle.decimal.proofs.at_least_zero.Goals as goal

pub returns : goal.returns
returns c = ap (le_z (pos 0)) (in_bits c.args.a.millionths (omega arith)) ∙ least_zero c.args.a.millionths
