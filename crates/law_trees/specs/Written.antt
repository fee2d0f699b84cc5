-- How a tree is written: its tokens, with ts after them.
use Rattle.std.specs.Prelude.{ℕ, zero, suc, Bool, cond, List, ◌∷◌}
use Rattle.macro_tokens.specs.declared.Token.{Token}
use Rattle.macro_tokens.specs.declared.Token.TheVariants.{Number, Variable, Plus, Minus, Times, Over, Open, Close}
use Rattle.law_trees.specs.Tree.{Row, first, more, Factor, number, variable, inside, Lead, bare, plus, minus, Nothing, Term, Sum, Inner, Expression}

unfoldable pub plus_or : Bool → Token
plus_or second = cond second Minus Plus

unfoldable pub times_or : Bool → Token
times_or second = cond second Over Times

unfoldable pub row_written : {L X : Type 0} → (Bool → Token) → (L → List Token → List Token) → (X → List Token → List Token) → Row L X → List Token → List Token
row_written operator led operand (first l x) ts = led l (operand x ts)
row_written operator led operand (more r second x) ts = row_written operator led operand r (operator second ∷ operand x ts)

unfoldable pub lead_written : Lead → List Token → List Token
lead_written bare ts = ts
lead_written plus ts = Plus ∷ ts
lead_written minus ts = Minus ∷ ts

abbrev pub unled : Nothing → List Token → List Token
unled l ts = ts

module _ {E : Type 0} (inner : E → List Token → List Token) where
  unfoldable pub factor_written : Factor E → List Token → List Token
  factor_written (number n) ts = Number n ∷ ts
  factor_written (variable n) ts = Variable n ∷ ts
  factor_written (inside e) ts = Open ∷ inner e (Close ∷ ts)

  unfoldable pub term_written : Term E → List Token → List Token
  term_written = row_written times_or unled factor_written

  unfoldable pub sum_written : Sum E → List Token → List Token
  sum_written = row_written plus_or lead_written term_written

unfoldable pub inner_written : (depth : ℕ) → Inner depth → List Token → List Token
inner_written zero e ts = absurd e
inner_written (suc depth) e ts = sum_written (inner_written depth) e ts

unfoldable pub written : (depth : ℕ) → Expression depth → List Token → List Token
written depth = sum_written (inner_written depth)
