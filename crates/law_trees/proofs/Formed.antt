-- A written tree has good form: the walk over its tokens ends after an operand, with no parenthesis more open than before, and has told of the tree's
-- numbers and of nothing else. One law for the rows of both ranks.
-- Assumes nothing.
use Prim.Native.Nat.{ℕ, zero, suc, ◌+◌, ◌-◌, ◌≤◌}
use mathlib.Core.Path.{◌≡◌, refl, sym, ap, ◌∙◌}
use mathlib.Core.Bool.{Bool, true, false, not}
use mathlib.Core.List.{List, [], ◌∷◌}
use native.Mathlib.Nat.{add_assoc, add-zero, zero-add}
use native.Mathlib.Omega.{arith}
use lib.Dec.{eqb, leb}
use borrow.Author.Tests.{lt-leb, ne_eqb}
use Rattle.base.specs.Or.{◌or◌}
use Rattle.command.specs.Rounded.{counted}
use Rattle.command.specs.declared.Number.{Number}
use Rattle.command.specs.declared.Size.{Size}
use Rattle.macro_tokens.specs.Tokens.{tokens}
use Rattle.macro_tokens.specs.declared.Token.{Token}
use Rattle.macro_tokens.specs.declared.Token.TheVariants as token
use Rattle.macro_form.specs.Blocks.{joined, numbered}
use Rattle.macro_form.specs.Expression.{start, after_operand, after_operator, opened, closed, step, walked, finished, expression_form}
use Rattle.macro_form.specs.declared.Form.{Form}
use Rattle.macro_form.specs.declared.Walk.{Walk}
use Rattle.law_trees.specs.Formed.{sized, row_form, factor_form, term_form, sum_form, inner_form, tree_form}
use Rattle.law_trees.specs.Tree.{Row, first, more, Factor, number, variable, inside, Lead, bare, plus, minus, Nothing, Term, Sum, Inner, Expression, deepest}
use Rattle.law_trees.specs.Written.{plus_or, times_or, row_written, lead_written, unled, factor_written, term_written, sum_written, inner_written, written}

or_none : (a : Bool) → (a or false) ≡ a
unfolding ◌or◌
or_none true = refl
or_none false = refl

or_assoc : (a b c : Bool) → ((a or b) or c) ≡ (a or (b or c))
unfolding ◌or◌
or_assoc true b c = refl
or_assoc false b c = refl

-- the walk after an operand of which f is told, and after an operator
grown : Walk → Form → Walk
grown w f = record { formless = w.formless or f.formless; long = w.long or f.long; deep = w.deep or f.deep; depth = w.depth; operand = true; sign = false; rounded = w.rounded + f.rounded }

ready : Walk → Walk
ready w = record { formless = w.formless; long = w.long; deep = w.deep; depth = w.depth; operand = false; sign = false; rounded = w.rounded }

grown_twice : (w : Walk) (f g : Form) → grown (ready (grown w f)) g ≡ grown w (joined f g)
unfolding grown ready joined
grown_twice w f g = rw (or_assoc w.formless f.formless g.formless, or_assoc w.long f.long g.long, or_assoc w.deep f.deep g.deep, add_assoc w.rounded f.rounded g.rounded)

-- an operand may stand here, with d parentheses more around what stands in it
record Free (d : ℕ) (w : Walk) : Type 0 where
  none : w.operand ≡ false
  room : w.depth + d ≤ deepest

ready_free : (d : ℕ) (w : Walk) (f : Form) → Free d w → Free d (ready (grown w f))
unfolding grown ready
ready_free d w f r = record { none = refl; room = r.room }

module _ {L X : Type 0} (operator : Bool → Token) (led : L → List Token → List Token) (operand : X → List Token → List Token) (form : X → Form) (d : ℕ)
    (operates : (w : Walk) (f : Form) (second : Bool) → step (grown w f) (operator second) ≡ ready (grown w f))
    (operand-walks : (w : Walk) → Free d w → (x : X) (ts : List Token) → walked w (operand x ts) ≡ walked (grown w (form x)) ts)
    (w : Walk) (free : Free d w)
    (first_Walks : (l : L) (x : X) (ts : List Token) → walked w (led l (operand x ts)) ≡ walked (grown w (form x)) ts) where
  row_walks : (r : Row L X) (ts : List Token) → walked w (row_written operator led operand r ts) ≡ walked (grown w (row_form form r)) ts
  unfolding row_written row_form walked
  row_walks (first l x) ts = first_Walks l x ts
  row_walks (more r second x) ts =
      let f : Form = row_form form r in
      row_walks r (operator second ∷ operand x ts)
      ∙ ap (λ (v : Walk). walked v (operand x ts)) (operates w f second)
      ∙ operand-walks (ready (grown w f)) (ready_free d w f free) x ts
      ∙ ap (λ (v : Walk). walked v ts) (grown_twice w f (form x))

times_operates : (w : Walk) (f : Form) (second : Bool) → step (grown w f) (times_or second) ≡ ready (grown w f)
unfolding grown ready times_or step after_operator
times_operates w f true = rw (or_none (w.formless or f.formless))
times_operates w f false = rw (or_none (w.formless or f.formless))

plus_operates : (w : Walk) (f : Form) (second : Bool) → step (grown w f) (plus_or second) ≡ ready (grown w f)
unfolding grown ready plus_or step after_operator ◌or◌
plus_operates w f true = rw (or_none (w.formless or f.formless))
plus_operates w f false = rw (or_none (w.formless or f.formless))

-- a number, and a variable
number_steps : (w : Walk) → w.operand ≡ false → (n : Size) → step w (token.Number n) ≡ grown w (sized n)
unfolding step after_operand grown sized
number_steps w e n = rw (e, or_none w.formless, or_none w.deep)

variable_steps : (w : Walk) → w.operand ≡ false → (n : Number) → step w (token.Variable n) ≡ grown w (numbered n)
unfolding step after_operand grown numbered counted
variable_steps w e n = rw (e, or_none w.formless, or_none w.deep)

-- a parenthesis opens
within : Walk → Walk
within w = record { formless = w.formless; long = w.long; deep = w.deep; depth = w.depth + 1; operand = false; sign = true; rounded = w.rounded }

opens : (d : ℕ) (w : Walk) → Free (suc d) w → step w token.Open ≡ within w
unfolding within step opened
opens d w r =
    let l : leb 17 (w.depth + 1) ≡ false = lt-leb 17 (w.depth + 1) (let m = r.room in omega arith) in
    rw (r.none, l, or_none w.formless, or_none w.deep)

closes : (w : Walk) (f : Form) → step (grown (within w) f) token.Close ≡ grown w f
unfolding within grown step closed ◌or◌
closes w f =
    let z : eqb (w.depth + 1) 0 ≡ false = ne_eqb (w.depth + 1) 0 (λ e. omega arith) in
    let m : w.depth + 1 - 1 ≡ w.depth = omega arith in
    rw (z, m, or_none (w.formless or f.formless), or_none (w.formless or f.formless))

-- a sum may begin here
record Opens (d : ℕ) (w : Walk) : Type 0 where
  free : Free d w
  sign : w.sign ≡ true

-- a sign
plus_leads : (d : ℕ) (w : Walk) → Opens d w → step w token.Plus ≡ ready w
unfolding ready step after_operator ◌or◌
plus_leads d w o = rw (o.free.none, o.sign) (unfold ◌or◌ in (rw (or_none w.formless)))

minus_leads : (d : ℕ) (w : Walk) → Opens d w → step w token.Minus ≡ ready w
unfolding ready step after_operator ◌or◌
minus_leads d w o = rw (o.free.none, o.sign) (unfold ◌or◌ in (rw (or_none w.formless)))

-- E is what stands in parentheses, which d more may be around
module _ {E : Type 0} (inner : E → List Token → List Token) (form : E → Form) (d : ℕ)
    (inner-walks : (w : Walk) → Free d w → (e : E) (ts : List Token) → walked w (token.Open ∷ inner e (token.Close ∷ ts)) ≡ walked (grown w (form e)) ts) where
  factor_walks : (w : Walk) → Free d w → (x : Factor E) (ts : List Token) → walked w (factor_written inner x ts) ≡ walked (grown w (factor_form form x)) ts
  unfolding factor_written factor_form walked
  factor_walks w r (number n) ts = ap (λ (v : Walk). walked v ts) (number_steps w r.none n)
  factor_walks w r (variable n) ts = ap (λ (v : Walk). walked v ts) (variable_steps w r.none n)
  factor_walks w r (inside e) ts = inner-walks w r e ts

  term_walks : (w : Walk) → Free d w → (x : Term E) (ts : List Token) → walked w (term_written inner x ts) ≡ walked (grown w (term_form form x)) ts
  unfolding term_written term_form
  term_walks w r x ts = row_walks times_or unled (factor_written inner) (factor_form form) d times_operates factor_walks w r (λ l x ts. factor_walks w r x ts) x ts

  behind_sign : (w : Walk) → Opens d w → (x : Term E) (ts : List Token) → walked (ready w) (term_written inner x ts) ≡ walked (grown w (term_form form x)) ts
  unfolding ready grown
  behind_sign w o x ts = term_walks (ready w) (record { none = refl; room = o.free.room }) x ts

  led_walks : (w : Walk) → Opens d w → (l : Lead) (x : Term E) (ts : List Token) → walked w (lead_written l (term_written inner x ts)) ≡ walked (grown w (term_form form x)) ts
  led_walks w o bare x ts = unfold lead_written in (term_walks w o.free x ts)
  led_walks w o plus x ts = unfold lead_written walked in (ap (λ (v : Walk). walked v (term_written inner x ts)) (plus_leads d w o) ∙ behind_sign w o x ts)
  led_walks w o minus x ts = unfold lead_written walked in (ap (λ (v : Walk). walked v (term_written inner x ts)) (minus_leads d w o) ∙ behind_sign w o x ts)

  sum_walks : (w : Walk) → Opens d w → (x : Sum E) (ts : List Token) → walked w (sum_written inner x ts) ≡ walked (grown w (sum_form form x)) ts
  unfolding sum_written sum_form
  sum_walks w o x ts = row_walks plus_or lead_written (term_written inner) (term_form form) d plus_operates term_walks w o.free (led_walks w o) x ts

-- ---- parentheses

inside_walks : (d : ℕ) (w : Walk) → Free d w → (e : Inner d) (ts : List Token) →
    walked w (token.Open ∷ inner_written d e (token.Close ∷ ts)) ≡ walked (grown w (inner_form d e)) ts
unfolding inner_written inner_form walked
inside_walks zero w r e ts = absurd e
inside_walks (suc d) w r e ts =
    ap (λ (v : Walk). walked v (sum_written (inner_written d) e (token.Close ∷ ts))) (opens d w r)
    ∙ sum_walks (inner_written d) (inner_form d) d (inside_walks d) (within w) (opened_free d w r) e (token.Close ∷ ts)
    ∙ ap (λ (v : Walk). walked v ts) (closes w (sum_form (inner_form d) e))
  where
    opened_free : (d : ℕ) (w : Walk) → Free (suc d) w → Opens d (within w)
    opened_free d w r = unfold within in (record { free = record { none = refl; room = (let m = r.room in omega arith) }; sign = refl })

finishes : (f : Form) → finished (walked (grown start f) []) ≡ f
unfolding finished walked grown start ◌or◌
finishes f = rw (or_none f.formless, or_none f.formless, zero-add f.rounded)

-- ---- nothing in a tree to depth 16 is too deep

row_shallow : {L X : Type 0} (form : X → Form) → ((x : X) → (form x).deep ≡ false) → (r : Row L X) → (row_form form r).deep ≡ false
unfolding row_form joined ◌or◌
row_shallow form h (first l x) = h x
row_shallow form h (more r second x) = rw (row_shallow form h r) (h x)

factor_shallow : {E : Type 0} (form : E → Form) → ((e : E) → (form e).deep ≡ false) → (x : Factor E) → (factor_form form x).deep ≡ false
unfolding factor_form sized numbered
factor_shallow form h (number n) = refl
factor_shallow form h (variable n) = refl
factor_shallow form h (inside e) = h e

sum_shallow : {E : Type 0} (form : E → Form) → ((e : E) → (form e).deep ≡ false) → (x : Sum E) → (sum_form form x).deep ≡ false
unfolding sum_form term_form
sum_shallow form h x = row_shallow (row_form (factor_form form)) (row_shallow (factor_form form) (factor_shallow form h)) x

inner_shallow : (d : ℕ) (e : Inner d) → (inner_form d e).deep ≡ false
unfolding inner_form
inner_shallow zero e = absurd e
inner_shallow (suc d) e = sum_shallow (inner_form d) (inner_shallow d) e

pub tree_shallow : (d : ℕ) (e : Expression d) → (tree_form d e).deep ≡ false
unfolding tree_form
tree_shallow d e = sum_shallow (inner_form d) (inner_shallow d) e

-- ---- of a tree's text, exactly what is told of the tree's numbers

pub tree_form_lem : (t : List ℕ) (e : Expression deepest) → written deepest e [] ≡ tokens t → expression_form t ≡ tree_form deepest e
unfolding expression_form written tree_form
tree_form_lem t e q =
    ap (λ (ts : List Token). finished (walked start ts)) (sym q)
    ∙ ap finished (sum_walks (inner_written deepest) (inner_form deepest) deepest (inside_walks deepest) start begins e [])
    ∙ ended
  where
    begins : Opens deepest start
    begins = unfold start in (record { free = record { none = refl; room = omega arith }; sign = refl })

    ended : finished (walked (grown start (sum_form (inner_form deepest) e)) []) ≡ sum_form (inner_form deepest) e
    ended = finishes (sum_form (inner_form deepest) e)
