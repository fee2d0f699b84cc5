-- AD's standard templates (01, Form: "C diameter at least 0; R and O two sizes above 0; P diameter above 0, vertices a whole number 3
-- to 12, optional rotation. Each may end with a hole diameter above 0 (P only after a rotation). A wrong count is 10"; decisions 76, 80).
use Rattle.std.specs.Prelude.{ℕ, ◌+◌, Bool, false, List, [], ◌∷◌, eqb}
use Rattle.base.specs.And.{◌and◌}
use Rattle.base.specs.Or.{◌or◌}
use Rattle.text.specs.Text.{◌is◌}
use Rattle.base.specs.Choose.{choose}
use Rattle.decimal.specs.Amounts.{at_least_zero, above_zero}
use Rattle.decimal.specs.declared.answers.Amount.{Amount}
use Rattle.primitives.specs.Rules.{whole_between}
use Rattle.primitives.specs.declared.Asked.{Asked}

-- so many parameters, and perhaps a hole diameter above 0 after them
unfoldable pub with_hole : ℕ → Asked → Amount → Bool
with_hole n q hole = eqb q.count n or (eqb q.count (n + 1) and above_zero hole)

unfoldable pub circle : Asked → Bool
circle q = at_least_zero q.first and with_hole 1 q q.second

unfoldable pub rectangle : Asked → Bool
rectangle q = above_zero q.first and above_zero q.second and with_hole 2 q q.third

unfoldable pub polygon : Asked → Bool
polygon q =
    above_zero q.first and whole_between 3000000 12000000 q.second and (eqb q.count 2 or with_hole 3 q q.fourth)

-- the kind of an aperture, as its record keeps it: 5 where the name is a macro's
unfoldable pub kind_of : List ℕ → ℕ
kind_of name =
    choose
    ((name is "C", 1)
    ∷ (name is "R", 2)
    ∷ (name is "O", 3)
    ∷ (name is "P", 4)
    ∷ [])
    5

-- the parameters keep the rule of their template
unfoldable pub keeps : ℕ → Asked → Bool
keeps kind q =
    choose
    ((eqb kind 1, circle q)
    ∷ (eqb kind 2, rectangle q)
    ∷ (eqb kind 3, rectangle q)
    ∷ (eqb kind 4, polygon q)
    ∷ [])
    false

-- "a C aperture without hole"
unfoldable pub plain_circle : ℕ → Asked → Bool
plain_circle kind q = eqb kind 1 and eqb q.count 1
