-- An expression as a tree: "An expression may hold a term, a term a factor, a factor an expression in parentheses"; "one optional leading
-- sign (on the first term; numbers carry none), `+ -` below `x /`, equal ranks from the left, parentheses to depth 16" (01, Macros).
use Rattle.std.specs.Prelude.{ℕ, zero, suc, Bool}
use Rattle.command.specs.declared.Number.{Number}
use Rattle.command.specs.declared.Size.{Size}

-- operands of one rank: a first one, after what leads it; then what stands to the left, an operator, the second of its rank where the
-- flag is set, and one operand more
pub data Row (L X : Type 0) : Type 0 where
  first : L → X → Row L X
  more : Row L X → Bool → X → Row L X

-- E is what stands in parentheses
pub data Factor (E : Type 0) : Type 0 where
  number : Size → Factor E
  variable : Number → Factor E
  inside : E → Factor E

-- what leads a first term, and a first factor
pub data Lead : Type 0 where
  bare plus minus : Lead

pub data Nothing : Type 0 where
  nothing : Nothing

abbrev pub Term : Type 0 → Type 0
Term E = Row Nothing (Factor E)

abbrev pub Sum : Type 0 → Type 0
Sum E = Row Lead (Term E)

-- what stands in parentheses, where so many may be open at once; nothing where none may
abbrev pub Inner : ℕ → Type 0
Inner zero = ⊥
Inner (suc depth) = Sum (Inner depth)

abbrev pub Expression : ℕ → Type 0
Expression depth = Sum (Inner depth)

-- parentheses to depth 16
abbrev pub deepest : ℕ
deepest = 16
