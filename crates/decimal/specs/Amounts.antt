-- What rules ask of an amount (01, Form and Macros): "a decimal of at least 0", "a decimal above 0".
use Rattle.std.specs.Prelude.{Bool, not, leb, nat_abs}
use Rattle.base.specs.And.{◌and◌}
use Rattle.ints.specs.Ints.{is_neg}
use Rattle.decimal.specs.declared.answers.Amount.{Amount}

abbrev pub at_least_zero : Amount → Bool
at_least_zero a = not (is_neg a.millionths)

unfoldable pub above_zero : Amount → Bool
above_zero a = at_least_zero a and leb 1 (nat_abs a.millionths)
