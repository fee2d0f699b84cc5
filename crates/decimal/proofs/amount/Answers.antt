-- `decimal::amount` meets its contract: each way out is one law of the definition.
use mathlib.Core.Path.{refl, ap, ◌∙◌}
use native.Mathlib.Omega.{arith}
use Rattle.ints.specs.Ints.{signed}
use Rattle.ints.proofs.Bounded.{back}
use Rattle.decimal.specs.Decimal.{is_rounded}
use Rattle.decimal.proofs.Ways.{amount_long_whole, amount_long_fraction, amount_large, amount_value}
use Rattle.decimal.proofs.amount.Goals as goal

pub returns-then-whole-gt6 : goal.returns-then-whole-gt6
returns-then-whole-gt6 c = amount_long_whole _ _ _ (omega arith)

pub returns-then-fraction-gt18 : goal.returns-then-fraction-gt18
returns-then-fraction-gt18 c = amount_long_fraction _ _ _ (omega arith) (omega arith)

pub returns-then-size-ge1000000000000 : goal.returns-then-size-ge1000000000000
returns-then-size-ge1000000000000 c = amount_large _ _ _ (omega arith) (omega arith) (omega (arith, c.in_millionths-size.ensures))

pub returns : goal.returns
unfolding is_rounded
returns c =
    amount_value _ _ _ _ _ (omega arith) (omega arith) (omega (arith, c.in_millionths-size.ensures))
    (back _ (omega arith) ∙ c.with_sign.ensures.0 ∙ ap (signed c.args.minus) c.in_millionths-size.ensures)
    refl
