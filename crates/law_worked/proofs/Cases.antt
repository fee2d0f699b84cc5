-- Cases that decisions settle hold of the definitions: both sides compute to the same answers.
-- Assumes nothing.
use mathlib.Core.Path.{◌≡◌, refl}
use mathlib.Core.List.{map}
use Rattle.base.specs.And.{◌and◌}
use Rattle.base.specs.Or.{◌or◌}
use Rattle.ints.specs.Ints.{signed, eq_z, is_neg}
use Rattle.points.specs.Points.{same_point}
use Rattle.digits.specs.Digits.{is_digit, all_digits, value_of}
use Rattle.digits.specs.Sign.{has_minus, after_sign}
use Rattle.base.specs.Trimmed.{drop_leading, kept_before, drop_trailing}
use Rattle.decimal.specs.Point.{before_point, after_point}
use Rattle.decimal.specs.Decimal.{is_decimal, nearest as nearest_whole, in_millionths, is_rounded, amount_of, numeral_of, decimal_of}
use Rattle.reckon.specs.Rounding.{nearest, kept_of, product_of, quotient_of, reckoned_refusal}
use Rattle.reckon.specs.ArcCentre.{seen_from, parallel, between, strictly_between, nonsense_centre}
use Rattle.law_worked.specs.Questions.{worth, reading, reading_at, reckoned_as, answer}
use Rattle.law_worked.specs.Table.{said, answers, said_of, further}

pub decided : map answers further ≡ map said_of further
unfolding answer answers said said_of further worth reading reading_at reckoned_as
    is_digit all_digits value_of has_minus after_sign drop_leading kept_before drop_trailing before_point after_point is_decimal nearest_whole in_millionths is_rounded amount_of numeral_of decimal_of
    signed eq_z is_neg ◌and◌ ◌or◌ nearest kept_of product_of quotient_of reckoned_refusal
    same_point seen_from parallel between strictly_between nonsense_centre
decided = refl
