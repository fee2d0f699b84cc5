-- The bounds of SR (01, Form: "n digits alone and 1 to 9,999, d a decimal of at least 0"; decisions 37, 44 and 47).
use Rattle.std.specs.Prelude.{ℕ, Bool, leb}
use Rattle.base.specs.And.{◌and◌}
use Rattle.decimal.specs.Amounts.{at_least_zero}
use Rattle.decimal.specs.declared.answers.Amount.{Amount}

unfoldable pub is_count : ℕ → Bool
is_count n = leb 1 n and leb n 9999

unfoldable pub is_repeat : ℕ → ℕ → Amount → Amount → Bool
is_repeat nx ny dx dy = is_count nx and is_count ny and (at_least_zero dx and at_least_zero dy)
