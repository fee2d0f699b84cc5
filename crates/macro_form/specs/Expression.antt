-- The form of an expression (01, Macros; decisions 64 to 68), by what may follow what: an operand (a number, a variable, or a closed
-- parenthesis) is followed by an operator, `)` or the end; an operator, a sign or `(` by an operand or `(`; a sign stands only at the
-- start of an expression, also of one in parentheses.
use Rattle.std.specs.Prelude.{ℕ, ◌+◌, ◌-◌, Bool, true, false, not, List, [], ◌∷◌, eqb, leb}
use Rattle.base.specs.Or.{◌or◌}
use Rattle.command.specs.Rounded.{counted}
use Rattle.macro_tokens.specs.Tokens.{tokens}
use Rattle.macro_tokens.specs.declared.Token.{Token}
use Rattle.macro_tokens.specs.declared.Token.TheVariants.{End, Number, Variable, Plus, Minus, Times, Over, Open, Close, Unknown}
use Rattle.macro_form.specs.declared.Form.{Form}
use Rattle.macro_form.specs.declared.Walk.{Walk}

unfoldable pub start : Walk
start = record { formless = false; long = false; deep = false; depth = 0; operand = false; sign = true; rounded = 0 }

-- a number or a variable: 4 after an operand, or if it has not its form; 5 out of its range; a number that was rounded counts (02, [1])
unfoldable pub after_operand : Walk → Bool → Bool → Bool → Walk
after_operand w formless long rounded =
    record {
      formless = w.formless or w.operand or formless;
      long = w.long or long;
      deep = w.deep;
      depth = w.depth;
      operand = true;
      sign = false;
      rounded = w.rounded + counted rounded;
    }

-- an operator, or a sign: 4 where it may not stand
unfoldable pub after_operator : Walk → Bool → Walk
after_operator w may =
    record {
      formless = w.formless or not may;
      long = w.long;
      deep = w.deep;
      depth = w.depth;
      operand = false;
      sign = false;
      rounded = w.rounded;
    }

-- parentheses to depth 16, deeper is 15
unfoldable pub opened : Walk → Walk
opened w =
    record {
      formless = w.formless or w.operand;
      long = w.long;
      deep = w.deep or leb 17 (w.depth + 1);
      depth = w.depth + 1;
      operand = false;
      sign = true;
      rounded = w.rounded;
    }

unfoldable pub closed : Walk → Walk
closed w =
    record {
      formless = w.formless or not w.operand or eqb w.depth 0;
      long = w.long;
      deep = w.deep;
      depth = w.depth - 1;
      operand = true;
      sign = false;
      rounded = w.rounded;
    }

unfoldable pub unknown : Walk → Walk
unknown w =
    record {
      formless = true;
      long = w.long;
      deep = w.deep;
      depth = w.depth;
      operand = w.operand;
      sign = w.sign;
      rounded = w.rounded;
    }

unfoldable pub step : Walk → Token → Walk
step w End = unknown w
step w (Number n) = after_operand w n.formless n.long n.rounded
step w (Variable n) = after_operand w n.formless n.long false
step w Plus = after_operator w (w.operand or w.sign)
step w Minus = after_operator w (w.operand or w.sign)
step w Times = after_operator w w.operand
step w Over = after_operator w w.operand
step w Open = opened w
step w Close = closed w
step w Unknown = unknown w

unfoldable pub walked : Walk → List Token → Walk
walked w [] = w
walked w (t ∷ ts) = walked (step w t) ts

-- at the end an operand stands before, and no parenthesis is open
unfoldable pub finished : Walk → Form
finished w =
    record {
      formless = w.formless or not w.operand or leb 1 w.depth;
      long = w.long;
      deep = w.deep;
      rounded = w.rounded;
    }

unfoldable pub expression_form : List ℕ → Form
expression_form t = finished (walked start (tokens t))
