-- Written numbers say what the table has: each row is what the definitions make of it.
-- Assumes nothing.
use mathlib.Core.Path.{◌≡◌, refl}
use mathlib.Core.List.{map}
use Rattle.base.specs.And.{◌and◌}
use Rattle.base.specs.Or.{◌or◌}
use Rattle.ints.specs.Ints.{signed}
use Rattle.digits.specs.Digits.{is_digit, all_digits, is_number, value_of}
use Rattle.digits.specs.Sign.{has_minus, after_sign}
use Rattle.base.specs.Trimmed.{drop_leading, kept_before, drop_trailing}
use Rattle.digits.specs.Coordinate.{whole_of, coordinate_of}
use Rattle.digits.specs.Natural.{natural_of}
use Rattle.decimal.specs.Point.{before_point, after_point}
use Rattle.decimal.specs.Decimal.{is_decimal, nearest, in_millionths, is_rounded, amount_of, numeral_of, decimal_of}
use Rattle.law_worked.specs.Written.{worth, rounds, table, read}

pub written_numbers : map read table ≡ table
unfolding read table worth rounds
    is_digit all_digits is_number value_of has_minus after_sign drop_leading kept_before drop_trailing before_point after_point
    whole_of coordinate_of natural_of is_decimal nearest in_millionths is_rounded amount_of numeral_of decimal_of signed ◌and◌ ◌or◌
written_numbers = refl
