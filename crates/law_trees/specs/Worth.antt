-- The value of a tree: each operation on what stands to its left and its right, refused (9) where it refuses or one of the two is.
use Rattle.std.specs.Prelude.{ℕ, zero, suc, ◌-◌, Bool, List, ℤ, pos, neg_ℤ, get_or, None, Option, Some}
use Rattle.expression.specs.Grammar.{sum_by, product_by}
use Rattle.law_trees.specs.Tree.{Row, first, more, Factor, number, variable, inside, Lead, bare, plus, minus, Nothing, Term, Sum, Inner, Expression}

unfoldable pub applied : (ℤ → ℤ → Option ℤ) → Option ℤ → Option ℤ → Option ℤ
applied op None b = None
applied op (Some a) None = None
applied op (Some a) (Some b) = op a b

-- from the left
unfoldable pub row_worth : {L X : Type 0} → (Bool → ℤ → ℤ → Option ℤ) → (L → Option ℤ → Option ℤ) → (X → Option ℤ) → Row L X → Option ℤ
row_worth op led operand (first l x) = led l (operand x)
row_worth op led operand (more r second x) = applied (op second) (row_worth op led operand r) (operand x)

unfoldable pub negative : Option ℤ → Option ℤ
negative None = None
negative (Some a) = Some (neg_ℤ a)

-- a sign acts on the first term
unfoldable pub lead_worth : Lead → Option ℤ → Option ℤ
lead_worth bare r = r
lead_worth plus r = r
lead_worth minus r = negative r

abbrev pub as_is : Nothing → Option ℤ → Option ℤ
as_is l r = r

module _ (variables : List ℤ) where
  module _ {E : Type 0} (inner : E → Option ℤ) where
    unfoldable pub factor_worth : Factor E → Option ℤ
    factor_worth (number n) = Some n.value.millionths
    factor_worth (variable n) = Some (get_or variables (n.value - 1) (pos 0))
    factor_worth (inside e) = inner e

    unfoldable pub term_worth : Term E → Option ℤ
    term_worth = row_worth product_by as_is factor_worth

    unfoldable pub sum_worth : Sum E → Option ℤ
    sum_worth = row_worth sum_by lead_worth term_worth

  unfoldable pub inner_worth : (depth : ℕ) → Inner depth → Option ℤ
  inner_worth zero e = absurd e
  inner_worth (suc depth) e = sum_worth (inner_worth depth) e

  unfoldable pub comes_to : (depth : ℕ) → Expression depth → Option ℤ
  comes_to depth = sum_worth (inner_worth depth)
