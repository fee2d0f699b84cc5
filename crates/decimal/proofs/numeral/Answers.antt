-- `decimal::numeral` meets its contract: the form picks the case, and dropped zeros leave digits.
use mathlib.Core.Path.{sym, ◌∙◌}
use Rattle.decimal.specs.Decimal.{amount_of}
use Rattle.decimal.proofs.Ways.{numeral_digits, numeral_other, numeral_amount}
use Rattle.digits.proofs.Zeros.{leading_digits, trailing_digits}
use Rattle.decimal.proofs.numeral.Goals as goal

pub amount-requires : goal.amount-requires
amount-requires c =
    let d = numeral_digits c.args.minus _ _ (sym c.is_decimal.ensures ∙ c.if-is_decimal.true) in
    (rw c.without_leading_zeros.ensures (leading_digits _ d.0), rw c.without_trailing_zeros.ensures (trailing_digits _ d.1))

pub returns-then-is_decimal : goal.returns-then-is_decimal
returns-then-is_decimal c =
    c.amount.ensures
    ∙ (λ i. amount_of c.args.minus (c.without_leading_zeros.ensures i) (c.without_trailing_zeros.ensures i))
    ∙ numeral_amount _ _ _ (sym c.is_decimal.ensures ∙ c.if-is_decimal.true)

pub returns : goal.returns
returns c = numeral_other _ _ _ (sym c.is_decimal.ensures ∙ c.if-is_decimal.false)
