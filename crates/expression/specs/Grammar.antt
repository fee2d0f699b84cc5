-- The grammar of expressions, with the value of each (01, Macros; decisions 59 and 64 to 70): "An expression may hold a term, a term a
-- factor, a factor an expression in parentheses."
use Rattle.std.specs.Prelude.{ℕ, zero, suc, ◌-◌, Bool, true, false, cond, List, [], ◌∷◌, ℤ, pos, neg_ℤ, get_or, None, Option, Some}
use Rattle.reckon.specs.Rounding.{sum_of, difference_of, product_of, quotient_of}
use Rattle.macro_tokens.specs.declared.Token.{Token}
use Rattle.macro_tokens.specs.declared.Token.TheVariants.{End, Number, Variable, Plus, Minus, Times, Over, Open, Close, Unknown}
use Rattle.expression.specs.declared.Leaf.{Leaf}
use Rattle.expression.specs.declared.Leaf.TheVariants as leaf
use Rattle.expression.specs.declared.Sign.{Sign}
use Rattle.expression.specs.declared.Sign.TheVariants as sign

-- a value and the tokens after it; or refused: with 9, where the expression has its form
pub data Reading : Type 0 where
  refused : Reading
  reads : ℤ → List Token → Reading

-- the first token, and those after it
unfoldable pub head : List Token → Token
head [] = End
head (t ∷ ts) = t

unfoldable pub tail : List Token → List Token
tail [] = []
tail (t ∷ ts) = ts

-- the two operators of each rank
unfoldable pub plus_minus : Token → Sign
plus_minus End = sign.Nothing
plus_minus (Number n) = sign.Nothing
plus_minus (Variable n) = sign.Nothing
plus_minus Plus = sign.First
plus_minus Minus = sign.Second
plus_minus Times = sign.Nothing
plus_minus Over = sign.Nothing
plus_minus Open = sign.Nothing
plus_minus Close = sign.Nothing
plus_minus Unknown = sign.Nothing

unfoldable pub times_over : Token → Sign
times_over End = sign.Nothing
times_over (Number n) = sign.Nothing
times_over (Variable n) = sign.Nothing
times_over Plus = sign.Nothing
times_over Minus = sign.Nothing
times_over Times = sign.First
times_over Over = sign.Second
times_over Open = sign.Nothing
times_over Close = sign.Nothing
times_over Unknown = sign.Nothing

-- rounded once each, 9 by a zero divisor or by size
unfoldable pub sum_by : Bool → ℤ → ℤ → Option ℤ
sum_by minus a b = cond minus (difference_of a b) (sum_of a b)

unfoldable pub product_by : Bool → ℤ → ℤ → Option ℤ
product_by over a b = cond over (quotient_of a b) (product_of a b)

-- ---- operators of one rank, from the left

-- whether an operator follows, the second of its rank or the first, and the tokens after it
pub data Next : Type 0 where
  stop : Next
  go : Bool → List Token → Next

unfoldable pub following : Sign → List Token → Next
following sign.Nothing ts = stop
following sign.First ts = go false ts
following sign.Second ts = go true ts

unfoldable pub after : (Token → Sign) → Reading → Next
after rank refused = stop
after rank (reads a ts) = following (rank (head ts)) (tail ts)

unfoldable pub kept : Option ℤ → List Token → Reading
kept None ts = refused
kept (Some a) ts = reads a ts

unfoldable pub joined : (ℤ → ℤ → Option ℤ) → Reading → Reading → Reading
joined op refused right = refused
joined op (reads a ts) refused = refused
joined op (reads a ts) (reads b us) = kept (op a b) us

-- a reading, then operators with their operands, each applied to what was read so far; at most n of them
unfoldable pub chain : (Token → Sign) → (Bool → ℤ → ℤ → Option ℤ) → (List Token → Reading) → ℕ → Reading → Reading
chain rank op operand zero w = w
chain rank op operand (suc n) w =
    elim (after rank w) [ stop ↦ w | go second ts ↦ chain rank op operand n (joined (op second) w (operand ts)) ]

-- ---- expression, term, factor

-- one optional leading sign, on the first term
unfoldable pub negated : Bool → Reading → Reading
negated minus refused = refused
negated minus (reads a ts) = reads (cond minus (neg_ℤ a) a) ts

unfoldable pub leading : (List Token → Reading) → Next → List Token → Reading
leading term stop ts = term ts
leading term (go minus us) ts = negated minus (term us)

-- an expression in parentheses ends with its `)`
unfoldable pub is_close : Token → Bool
is_close End = false
is_close (Number n) = false
is_close (Variable n) = false
is_close Plus = false
is_close Minus = false
is_close Times = false
is_close Over = false
is_close Open = false
is_close Close = true
is_close Unknown = false

unfoldable pub closed : Reading → Reading
closed refused = refused
closed (reads a ts) = cond (is_close (head ts)) (reads a (tail ts)) refused

-- a number, a variable, or a parenthesis
unfoldable pub leaf_of : List ℤ → Token → Leaf
leaf_of variables End = leaf.Nothing
leaf_of variables (Number n) = leaf.Value n.value
leaf_of variables (Variable n) = leaf.Value (record { millionths = get_or variables (n.value - 1) (pos 0) })
leaf_of variables Plus = leaf.Nothing
leaf_of variables Minus = leaf.Nothing
leaf_of variables Times = leaf.Nothing
leaf_of variables Over = leaf.Nothing
leaf_of variables Open = leaf.Open
leaf_of variables Close = leaf.Nothing
leaf_of variables Unknown = leaf.Nothing

unfoldable pub begun : (List Token → Reading) → Leaf → List Token → Reading
begun inner leaf.Nothing ts = refused
begun inner (leaf.Value a) ts = reads a.millionths ts
begun inner leaf.Open ts = closed (inner ts)

-- n is a bound on the operators in a row: the bytes of the text
module _ (n : ℕ) (variables : List ℤ) where
  unfoldable pub factor : (List Token → Reading) → List Token → Reading
  factor inner ts = begun inner (leaf_of variables (head ts)) (tail ts)

  unfoldable pub term : (List Token → Reading) → List Token → Reading
  term inner ts = chain times_over product_by (factor inner) n (factor inner ts)

  unfoldable pub expression : (List Token → Reading) → List Token → Reading
  expression inner ts =
      chain plus_minus sum_by (term inner) n (leading (term inner) (following (plus_minus (head ts)) (tail ts)) ts)

  -- with so many parentheses left to open
  unfoldable pub expression_at : ℕ → List Token → Reading
  expression_at zero ts = refused
  expression_at (suc depth) ts = expression (expression_at depth) ts

  abbrev pub term_at : ℕ → List Token → Reading
  term_at depth = term (expression_at depth)

  abbrev pub factor_at : ℕ → List Token → Reading
  factor_at depth = factor (expression_at depth)
