-- The value of the text of an expression (01, Macros), with parentheses to depth 16.
use Rattle.std.specs.Prelude.{ℕ, ◌^◌, ◌<◌, ◌≡◌, List, [], ◌∷◌, ℤ, nat_abs, length, None, Option, Some}
use Rattle.macro_tokens.specs.Tokens.{tokens}
use Rattle.expression.specs.Grammar.{Reading, refused, reads, expression_at}

-- no token is left
unfoldable pub whole : Reading → Option ℤ
whole refused = None
whole (reads a []) = Some a
whole (reads a (t ∷ ts)) = None

unfoldable pub value_of : List ℤ → List ℕ → Option ℤ
value_of variables t = whole (expression_at (length t) variables 17 (tokens t))

-- r is its value; a value is below 10 ^ 12 millionths in size, where every variable is
pub record Comes (variables : List ℤ) (t : List ℕ) (r : Option ℤ) : Type 0 where
  pub says : r ≡ value_of variables t
  pub small : (z : ℤ) → r ≡ Some z → nat_abs z < 10 ^ 12
