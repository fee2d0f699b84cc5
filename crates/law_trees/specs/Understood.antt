-- What it is for a text to be an expression: a tree is written so, AM tells of the text what is told of the tree's numbers, and AD's
-- value of the text is that of the tree.
use Rattle.std.specs.Prelude.{ℕ, ◌≡◌, List, [], ℤ}
use Rattle.macro_tokens.specs.Tokens.{tokens}
use Rattle.macro_form.specs.Expression.{expression_form}
use Rattle.expression.specs.Value.{value_of}
use Rattle.law_trees.specs.Formed.{tree_form}
use Rattle.law_trees.specs.Tree.{Expression, deepest}
use Rattle.law_trees.specs.Worth.{comes_to}
use Rattle.law_trees.specs.Written.{written}

pub record Understood (t : List ℕ) : Type 0 where
  pub tree : Expression deepest
  pub text : written deepest tree [] ≡ tokens t
  pub form : expression_form t ≡ tree_form deepest tree
  pub value : (variables : List ℤ) → value_of variables t ≡ comes_to variables deepest tree
