-- Worked examples, by computation: texts, their trees, and the outcome of these where $1 is 1. Equal ranks go from the left, a sign acts on
-- the first term alone, a zero divisor is refused.
-- Assumes nothing.
use Rattle.std.specs.Prelude.{None, Option, Some, ℤ}
use Prim.Native.Nat.{ℕ}
use Prim.Native.String.{String}
use mathlib.Core.Path.{◌≡◌, refl}
use mathlib.Core.Bool.{true, false}
use mathlib.Core.List.{List, [], ◌∷◌, map}
use lib.IntN.{pos, negsuc}
use Rattle.base.specs.And.{◌and◌}
use Rattle.base.specs.Or.{◌or◌}
use Rattle.ints.specs.Ints.{signed, eq_z, is_neg}
use Rattle.digits.specs.Coordinate.{whole_of, coordinate_of}
use Rattle.digits.specs.Digits.{is_digit, all_digits, is_number, value_of}
use Rattle.digits.specs.Natural.{natural_of}
use Rattle.digits.specs.Sign.{has_minus, after_sign}
use Rattle.base.specs.Trimmed.{drop_leading, kept_before, drop_trailing}
use Rattle.decimal.specs.Decimal.{is_decimal, nearest as nearest_whole, in_millionths, is_rounded, amount_of, numeral_of, decimal_of}
use Rattle.decimal.specs.Point.{before_point, after_point}
use Rattle.text.specs.Text.{text}
use Rattle.base.specs.Choose.{pick}
use Rattle.command.specs.Numbers.{sized_as}
use Rattle.reckon.specs.Rounding.{nearest, kept_of, sum_of, difference_of, product_of, quotient_of}
use Rattle.macro_tokens.specs.Tokens.{variable_of, token_of, tokens}
use Rattle.macro_tokens.specs.Words.{numeral, joins, onto, words}
use Rattle.expression.specs.Grammar.{sum_by, product_by}
use Rattle.law_trees.specs.Tree.{first, more, Factor, number, variable, inside, bare, minus, nothing, Term, Sum, Expression}
use Rattle.law_trees.specs.Worth.{applied, row_worth, negative, lead_worth, factor_worth, term_worth, sum_worth, inner_worth, comes_to}
use Rattle.law_trees.specs.Written.{plus_or, times_or, row_written, lead_written, factor_written, term_written, sum_written, inner_written, written}

abbrev whole : {E : Type 0} → ℕ → Factor E
whole n = number (record { formless = false; long = false; rounded = false; value = record { millionths = pos n } })

abbrev one_of : {E : Type 0} → ℕ → Term E
one_of n = first nothing (whole n)

abbrev three_less_dollar_one : {E : Type 0} → Sum E
three_less_dollar_one = more (first bare (one_of 3000000)) true (first nothing (variable (record { formless = false; long = false; value = 1 })))

abbrev examples : List (String × Expression 1 × Option ℤ)
examples =
    ("8-4-2", more (more (first bare (one_of 8000000)) true (one_of 4000000)) true (one_of 2000000), Some (pos 2000000))
    ∷ ("8/4x2", first bare (more (more (first nothing (whole 8000000)) true (whole 4000000)) false (whole 2000000)), Some (pos 4000000))
    ∷ ("-1+3", more (first minus (one_of 1000000)) false (one_of 3000000), Some (pos 2000000))
    ∷ ("-2x(3-$1)", first minus (more (first nothing (whole 2000000)) false (inside three_less_dollar_one)), Some (negsuc 3999999))
    ∷ ("1/0+1", more (first bare (more (first nothing (whole 1000000)) true (whole 0))) false (one_of 1000000), None)
    ∷ []

examples_written : map (λ row. written 1 row.1 []) examples ≡ map (λ row. tokens (text row.0)) examples
unfolding written sum_written term_written factor_written inner_written row_written lead_written plus_or times_or
    tokens words onto numeral joins token_of variable_of pick sized_as decimal_of numeral_of amount_of is_rounded in_millionths nearest_whole is_decimal drop_leading kept_before drop_trailing
    before_point after_point is_digit all_digits is_number value_of has_minus after_sign whole_of coordinate_of natural_of signed ◌and◌ ◌or◌
examples_written = refl

examples_worth : map (λ row. comes_to (pos 1000000 ∷ []) 1 row.1) examples ≡ map (λ row. row.2) examples
unfolding comes_to sum_worth term_worth factor_worth inner_worth row_worth lead_worth negative applied sum_by product_by
    sum_of difference_of product_of quotient_of kept_of nearest eq_z is_neg signed
examples_worth = refl
