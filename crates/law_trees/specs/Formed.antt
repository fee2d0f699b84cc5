-- What is told of a tree's numbers: whether one has not its form (4) or is out of its range (5), and how many were rounded (02, [1]).
use Rattle.std.specs.Prelude.{ℕ, zero, suc, ◌≡◌, Bool, false}
use Rattle.command.specs.Rounded.{counted}
use Rattle.command.specs.declared.Size.{Size}
use Rattle.macro_form.specs.Blocks.{joined, numbered}
use Rattle.macro_form.specs.declared.Form.{Form}
use Rattle.law_trees.specs.Tree.{Row, first, more, Factor, number, variable, inside, Term, Sum, Inner, Expression}

unfoldable pub sized : Size → Form
sized n = record { formless = n.formless; long = n.long; deep = false; rounded = counted n.rounded }

unfoldable pub row_form : {L X : Type 0} → (X → Form) → Row L X → Form
row_form operand (first l x) = operand x
row_form operand (more r second x) = joined (row_form operand r) (operand x)

module _ {E : Type 0} (inner : E → Form) where
  unfoldable pub factor_form : Factor E → Form
  factor_form (number n) = sized n
  factor_form (variable n) = numbered n
  factor_form (inside e) = inner e

  unfoldable pub term_form : Term E → Form
  term_form = row_form factor_form

  unfoldable pub sum_form : Sum E → Form
  sum_form = row_form term_form

unfoldable pub inner_form : (depth : ℕ) → Inner depth → Form
inner_form zero e = absurd e
inner_form (suc depth) e = sum_form (inner_form depth) e

unfoldable pub tree_form : (depth : ℕ) → Expression depth → Form
tree_form depth = sum_form (inner_form depth)

-- its numbers and variables have their form and are in range
pub record InRange (depth : ℕ) (e : Expression depth) : Type 0 where
  pub form : (tree_form depth e).formless ≡ false
  pub range : (tree_form depth e).long ≡ false
