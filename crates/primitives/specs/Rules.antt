-- "Parameter counts, else 10: code 1, 4 or 5; 20, 7; 21, 6; 4, 5+2n with n whole, 1 to 5000 and last point equal to first; 5, 6; 7, 6.
-- Exposure is 0 or 1; polygon vertices whole, 3 to 12; diameters, widths, heights at least 0; thermal outer above inner, inner at least
-- 0, gap at least 0 and twice the gap's square below the outer's. Other codes are 10." (01, Macros; decisions 63 and 73 to 75)
use Rattle.std.specs.Prelude.{ℕ, ◌+◌, ◌*◌, ◌/◌, ◌%◌, Bool, false, List, [], ◌∷◌, eqb, leb, nat_abs}
use Rattle.base.specs.And.{◌and◌}
use Rattle.base.specs.Or.{◌or◌}
use Rattle.ints.specs.Ints.{eq_z}
use Rattle.text.specs.Text.{◌is◌}
use Rattle.base.specs.Choose.{choose}
use Rattle.decimal.specs.Amounts.{at_least_zero}
use Rattle.decimal.specs.declared.answers.Amount.{Amount}
use Rattle.reckon.specs.Thermal.{thermal_fits}
use Rattle.primitives.specs.declared.Asked.{Asked}

unfoldable pub exposure : Amount → Bool
exposure a = at_least_zero a and (eqb (nat_abs a.millionths) 0 or eqb (nat_abs a.millionths) 1000000)

-- a whole number from low to high, these in millionths
unfoldable pub whole_between : ℕ → ℕ → Amount → Bool
whole_between low high a =
    (at_least_zero a and eqb (nat_abs a.millionths % 1000000) 0)
    and (leb low (nat_abs a.millionths) and leb (nat_abs a.millionths) high)

-- 1: exposure, diameter, centre x, centre y, and a rotation or none
unfoldable pub circle : Asked → Bool
circle q = (eqb q.count 4 or eqb q.count 5) and (exposure q.first and at_least_zero q.second)

-- 20: exposure, width, start x, start y, end x, end y, rotation
unfoldable pub vector_line : Asked → Bool
vector_line q = eqb q.count 7 and (exposure q.first and at_least_zero q.second)

-- 21: exposure, width, height, centre x, centre y, rotation
unfoldable pub center_line : Asked → Bool
center_line q =
    (eqb q.count 6 and exposure q.first) and (at_least_zero q.second and at_least_zero q.third)

-- 4: exposure, n, start x, start y, n further points, of which the last is the start again, rotation
unfoldable pub outline : Asked → Bool
outline q =
    (exposure q.first
    and (whole_between 1000000 5000000000 q.second and eqb q.count (5 + 2 * (nat_abs q.second.millionths / 1000000))))
    and (eq_z q.third.millionths q.antepenult.millionths and eq_z q.fourth.millionths q.penult.millionths)

-- 5: exposure, vertices, centre x, centre y, diameter, rotation
unfoldable pub polygon : Asked → Bool
polygon q =
    (eqb q.count 6 and exposure q.first) and (whole_between 3000000 12000000 q.second and at_least_zero q.fifth)

-- 7: centre x, centre y, outer diameter, inner diameter, gap, rotation
unfoldable pub thermal : Asked → Bool
thermal q = eqb q.count 6 and thermal_fits q.third.millionths q.fourth.millionths q.fifth.millionths

-- a code as it is written, 0 for those that no primitive has
unfoldable pub code_of : List ℕ → ℕ
code_of t =
    choose
    ((t is "1", 1)
    ∷ (t is "4", 4)
    ∷ (t is "5", 5)
    ∷ (t is "7", 7)
    ∷ (t is "20", 20)
    ∷ (t is "21", 21)
    ∷ [])
    0

unfoldable pub keeps : ℕ → Asked → Bool
keeps code q =
    choose
    ((eqb code 1, circle q)
    ∷ (eqb code 4, outline q)
    ∷ (eqb code 5, polygon q)
    ∷ (eqb code 7, thermal q)
    ∷ (eqb code 20, vector_line q)
    ∷ (eqb code 21, center_line q)
    ∷ [])
    false
