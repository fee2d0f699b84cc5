-- Tokens of good form are those of a tree. The tree grows with the walk: beside the walk's state goes what has been read so far, a part of
-- a tree that waits for an operand or has it, inside the parts around its open parentheses.
-- Assumes nothing.
use Prim.Native.Nat.{ℕ, zero, suc, ◌+◌, ◌-◌}
use mathlib.Core.Path.{◌≡◌, refl, sym, ap, ◌∙◌}
use mathlib.Core.Bool.{Bool, true, false, not, false≢true}
use mathlib.Core.List.{List, [], ◌∷◌}
use native.Mathlib.Omega.{arith}
use lib.Dec.{eqb, leb}
use borrow.Author.Tests.{le-leb}
use Rattle.base.specs.Or.{◌or◌}
use Rattle.command.specs.Rounded.{counted}
use Rattle.macro_tokens.specs.declared.Token.{Token}
use Rattle.macro_tokens.specs.declared.Token.TheVariants as token
use Rattle.macro_form.specs.Expression.{start, after_operand, after_operator, opened, closed, unknown, step, walked, finished}
use Rattle.macro_form.specs.declared.Walk.{Walk}
use Rattle.law_trees.specs.Sound.{Sound}
use Rattle.law_trees.specs.Tree.{Row, first, more, Factor, number, variable, inside, Lead, bare, plus, minus, Nothing, nothing, Term, Inner, Expression, deepest}
use Rattle.law_trees.specs.Written.{plus_or, times_or, row_written, lead_written, unled, factor_written, term_written, sum_written, inner_written, written}

-- ---- what is wrong once is wrong at the end

no : {A : Type 0} → true ≡ false → A
no e = absurd (false≢true (sym e))

pub or_l : (a b : Bool) → (a or b) ≡ false → a ≡ false
unfolding ◌or◌
or_l true b e = e
or_l false b e = refl

abbrev Good : Walk → Type 0
Good w = (w.formless ≡ false) × (w.deep ≡ false)

good_before : (w : Walk) (t : Token) → Good (step w t) → Good w
unfolding step after_operand after_operator opened closed unknown
good_before w token.End e = no e.0
good_before w (token.Number n) e = (or_l _ _ (or_l _ _ e.0), e.1)
good_before w (token.Variable n) e = (or_l _ _ (or_l _ _ e.0), e.1)
good_before w token.Plus e = (or_l _ _ e.0, e.1)
good_before w token.Minus e = (or_l _ _ e.0, e.1)
good_before w token.Times e = (or_l _ _ e.0, e.1)
good_before w token.Over e = (or_l _ _ e.0, e.1)
good_before w token.Open e = (or_l _ _ e.0, or_l _ _ e.1)
good_before w token.Close e = (or_l _ _ (or_l _ _ e.0), e.1)
good_before w token.Unknown e = no e.0

good_so_far : (w : Walk) (ts : List Token) → Sound (finished (walked w ts)) → Good w
unfolding walked finished
good_so_far w [] s = (or_l _ _ (or_l _ _ s.form), s.depth)
good_so_far w (t ∷ ts) s = good_before w t (good_so_far (step w t) ts s)

-- ---- what has been read

-- what stands before an operand of a row
data Ahead (L X : Type 0) : Type 0 where
  begun : L → Ahead L X
  behind : Row L X → Bool → Ahead L X

plugged : {L X : Type 0} → Ahead L X → X → Row L X
plugged (begun l) x = first l x
plugged (behind r second) x = more r second x

module _ {L X : Type 0} (operator : Bool → Token) (led : L → List Token → List Token) (operand : X → List Token → List Token) where
  ahead_written : Ahead L X → List Token → List Token
  ahead_written (begun l) ts = led l ts
  ahead_written (behind r second) ts = row_written operator led operand r (operator second ∷ ts)

  plugged_written : (a : Ahead L X) (x : X) (ts : List Token) → row_written operator led operand (plugged a x) ts ≡ ahead_written a (operand x ts)
  unfolding plugged ahead_written row_written
  plugged_written (begun l) x ts = refl
  plugged_written (behind r second) x ts = refl

abbrev Terms : ℕ → Type 0
Terms d = Ahead Lead (Term (Inner d))

abbrev Factors : ℕ → Type 0
Factors d = Ahead Nothing (Factor (Inner d))

abbrev terms_written : (d : ℕ) → Terms d → List Token → List Token
terms_written d = ahead_written plus_or lead_written (term_written (inner_written d))

abbrev factors_written : (d : ℕ) → Factors d → List Token → List Token
factors_written d = ahead_written times_or unled (factor_written (inner_written d))

-- in an expression: an operand is to come, or stands before
data Here (d : ℕ) : Type 0 where
  wants : Terms d → Factors d → Here d
  has : Terms d → Term (Inner d) → Here d

here_written : (d : ℕ) → Here d → List Token → List Token
here_written d (wants terms factors) ts = terms_written d terms (factors_written d factors ts)
here_written d (has terms t) ts = terms_written d terms (term_written (inner_written d) t ts)

-- the parts around the parentheses that are open, where D may be and d still can
data Around (D : ℕ) : ℕ → Type 0 where
  outermost : Around D D
  within : {d : ℕ} → Around D (suc d) → Terms (suc d) → Factors (suc d) → Around D d

around_written : {D d : ℕ} → Around D d → List Token → List Token
around_written outermost ts = ts
around_written (within {d = d} o terms factors) ts = around_written o (terms_written (suc d) terms (factors_written (suc d) factors (token.Open ∷ ts)))

open_in : {D d : ℕ} → Around D d → ℕ
open_in outermost = 0
open_in (within o terms factors) = open_in o + 1

open_and_left : {D d : ℕ} (o : Around D d) → open_in o + d ≡ D
unfolding open_in
open_and_left outermost = omega arith
open_and_left (within o terms factors) = let h = open_and_left o in omega arith

-- nothing of the expression stands before
is_start : {E : Type 0} → Ahead Lead (Term E) → Ahead Nothing (Factor E) → Bool
is_start terms (behind r second) = false
is_start (begun bare) (begun l) = true
is_start (begun plus) (begun l) = false
is_start (begun minus) (begun l) = false
is_start (behind r second) (begun l) = false

start_written : (d : ℕ) (terms : Terms d) (factors : Factors d) (ts : List Token) → not (is_start terms factors) ≡ false → ts ≡ terms_written d terms (factors_written d factors ts)
unfolding is_start ahead_written lead_written
start_written d terms (behind r second) ts e = no e
start_written d (begun bare) (begun l) ts e = refl
start_written d (begun plus) (begun l) ts e = no e
start_written d (begun minus) (begun l) ts e = no e
start_written d (behind r second) (begun l) ts e = no e

-- what the walk says of the numbers that it passed: whether one is too long, and how many were rounded
abbrev Passed : Type 0
Passed = Bool × ℕ

-- the walk's state
walk_at : {D d : ℕ} → Around D d → Here d → Passed → Walk
walk_at o (wants terms factors) numbers =
    record { formless = false; long = numbers.0; deep = false; depth = open_in o; operand = false; sign = is_start terms factors; rounded = numbers.1 }
walk_at o (has terms t) numbers =
    record { formless = false; long = numbers.0; deep = false; depth = open_in o; operand = true; sign = false; rounded = numbers.1 }

-- ---- one token more

record Goes {D d : ℕ} (o : Around D d) (p : Here d) (numbers : Passed) (t : Token) : Type 0 where
  left : ℕ
  around : Around D left
  here : Here left
  onward : Passed
  walks : step (walk_at o p numbers) t ≡ walk_at around here onward
  writes : (ts : List Token) → around_written around (here_written left here ts) ≡ around_written o (here_written d p (t ∷ ts))

module _ {D d : ℕ} (o : Around D d) (terms : Terms d) (numbers : Passed) where
  -- a number or a variable
  leaf_goes : (factors : Factors d) (x : Factor (Inner d)) (t : Token) (l : Passed) →
      step (walk_at o (wants terms factors) numbers) t ≡ walk_at o (has terms (plugged factors x)) l →
      ((ts : List Token) → factor_written (inner_written d) x ts ≡ t ∷ ts) → Goes o (wants terms factors) numbers t
  unfolding here_written term_written
  leaf_goes factors x t l walks token =
      record {
        left = d;
        around = o;
        here = has terms (plugged factors x);
        onward = l;
        walks = walks;
        writes =
            λ ts.
            ap (λ (us : List Token). around_written o (terms_written d terms us))
            (plugged_written times_or unled (factor_written (inner_written d)) factors x ts ∙ ap (factors_written d factors) (token ts));
      }

  sign_goes : (factors : Factors d) (l : Lead) (t : Token) →
      step (walk_at o (wants terms factors) numbers) t ≡ walk_at o (wants (begun l) (begun nothing)) numbers →
      ((ts : List Token) → lead_written l ts ≡ t ∷ ts) → not (is_start terms factors) ≡ false → Goes o (wants terms factors) numbers t
  unfolding here_written ahead_written
  sign_goes factors l t walks token e =
      record {
        left = d;
        around = o;
        here = wants (begun l) (begun nothing);
        onward = numbers;
        walks = walks;
        writes = λ ts. ap (around_written o) (token ts ∙ start_written d terms factors (t ∷ ts) e);
      }

  plus_goes : (x : Term (Inner d)) (second : Bool) (t : Token) →
      step (walk_at o (has terms x) numbers) t ≡ walk_at o (wants (behind (plugged terms x) second) (begun nothing)) numbers →
      plus_or second ≡ t → Goes o (has terms x) numbers t
  unfolding here_written ahead_written
  plus_goes x second t walks token =
      record {
        left = d;
        around = o;
        here = wants (behind (plugged terms x) second) (begun nothing);
        onward = numbers;
        walks = walks;
        writes =
            λ ts.
            ap (around_written o)
            (plugged_written plus_or lead_written (term_written (inner_written d)) terms x (plus_or second ∷ ts)
            ∙ ap (λ (u : Token). terms_written d terms (term_written (inner_written d) x (u ∷ ts))) token);
      }

  times_goes : (x : Term (Inner d)) (second : Bool) (t : Token) →
      step (walk_at o (has terms x) numbers) t ≡ walk_at o (wants terms (behind x second)) numbers →
      times_or second ≡ t → Goes o (has terms x) numbers t
  unfolding here_written ahead_written term_written
  times_goes x second t walks token =
      record {
        left = d;
        around = o;
        here = wants terms (behind x second);
        onward = numbers;
        walks = walks;
        writes = λ ts. ap (λ (u : Token). around_written o (terms_written d terms (term_written (inner_written d) x (u ∷ ts)))) token;
      }

open_goes : {D d : ℕ} → D ≡ deepest → (o : Around D d) (terms : Terms d) (factors : Factors d) (numbers : Passed) → leb (suc deepest) (open_in o + 1) ≡ false → Goes o (wants terms factors) numbers token.Open
unfolding here_written around_written ahead_written lead_written walk_at open_in is_start step opened ◌or◌
open_goes {d = zero} q o terms factors numbers e = let h = open_and_left o in no (sym (le-leb (suc deepest) (open_in o + 1) (omega arith)) ∙ e)
open_goes {d = suc d} q o terms factors numbers e =
    record {
      left = d;
      around = within o terms factors;
      here = wants (begun bare) (begun nothing);
      onward = numbers;
      walks = rw e;
      writes = λ ts. refl;
    }

close_goes : {D d : ℕ} (o : Around D d) (terms : Terms d) (x : Term (Inner d)) (numbers : Passed) → eqb (open_in o) 0 ≡ false → Goes o (has terms x) numbers token.Close
unfolding here_written around_written walk_at open_in step closed factor_written term_written sum_written inner_written ◌or◌
close_goes outermost terms x numbers e = no e
close_goes (within {d = d} o around-terms factors) terms x numbers e =
    let z : open_in o + 1 - 1 ≡ open_in o = omega arith in
    record {
      left = suc d;
      around = o;
      here = has around-terms (plugged factors (inside (plugged terms x)));
      onward = numbers;
      walks = rw (e, z);
      writes =
          λ ts.
          ap (λ (us : List Token). around_written o (terms_written (suc d) around-terms us))
          (plugged_written times_or unled (factor_written (inner_written (suc d))) factors (inside (plugged terms x)) ts
          ∙ ap (λ (us : List Token). factors_written (suc d) factors (token.Open ∷ us))
          (plugged_written plus_or lead_written (term_written (inner_written d)) terms x (token.Close ∷ ts)));
    }

goes : {D d : ℕ} → D ≡ deepest → (o : Around D d) (p : Here d) (numbers : Passed) (t : Token) → Good (step (walk_at o p numbers) t) → Goes o p numbers t
unfolding walk_at is_start step after_operand after_operator opened closed unknown factor_written lead_written plus_or times_or ◌or◌
goes q o (wants terms factors) numbers token.End e = no e.0
goes q o (wants terms factors) numbers (token.Number n) e =
    let f : n.formless ≡ false = e.0 in
    leaf_goes o terms numbers factors (number n) (token.Number n) (numbers.0 or n.long, numbers.1 + counted n.rounded) (rw f) (λ ts. refl)
goes q o (wants terms factors) numbers (token.Variable n) e =
    let f : n.formless ≡ false = e.0 in
    leaf_goes o terms numbers factors (variable n) (token.Variable n) (numbers.0 or n.long, numbers.1 + counted false) (rw f) (λ ts. refl)
goes q o (wants terms factors) numbers token.Plus e =
    let f : not (is_start terms factors) ≡ false = e.0 in
    sign_goes o terms numbers factors plus token.Plus (rw f) (λ ts. refl) f
goes q o (wants terms factors) numbers token.Minus e =
    let f : not (is_start terms factors) ≡ false = e.0 in
    sign_goes o terms numbers factors minus token.Minus (rw f) (λ ts. refl) f
goes q o (wants terms factors) numbers token.Times e = no e.0
goes q o (wants terms factors) numbers token.Over e = no e.0
goes q o (wants terms factors) numbers token.Open e = open_goes q o terms factors numbers e.1
goes q o (wants terms factors) numbers token.Close e = no e.0
goes q o (wants terms factors) numbers token.Unknown e = no e.0
goes q o (has terms x) numbers token.End e = no e.0
goes q o (has terms x) numbers (token.Number n) e = no e.0
goes q o (has terms x) numbers (token.Variable n) e = no e.0
goes q o (has terms x) numbers token.Plus e = plus_goes o terms numbers x false token.Plus refl refl
goes q o (has terms x) numbers token.Minus e = plus_goes o terms numbers x true token.Minus refl refl
goes q o (has terms x) numbers token.Times e = times_goes o terms numbers x false token.Times refl refl
goes q o (has terms x) numbers token.Over e = times_goes o terms numbers x true token.Over refl refl
goes q o (has terms x) numbers token.Open e = no e.0
goes q o (has terms x) numbers token.Close e = close_goes o terms x numbers e.0
goes q o (has terms x) numbers token.Unknown e = no e.0

-- ---- to the end

ended : {D d : ℕ} (o : Around D d) (p : Here d) (numbers : Passed) → Sound (finished (walk_at o p numbers)) → (e : Expression D) × (written D e [] ≡ around_written o (here_written d p []))
unfolding finished walk_at open_in around_written here_written written sum_written ◌or◌
ended o (wants terms factors) numbers s = no s.form
ended {D = D} outermost (has terms x) numbers s = (plugged terms x, plugged_written plus_or lead_written (term_written (inner_written D)) terms x [])
ended (within o around-terms factors) (has terms x) numbers s = no (sym (le-leb 1 (open_in o + 1) (omega arith)) ∙ s.form)

built : {D : ℕ} → D ≡ deepest → (ts : List Token) {d : ℕ} (o : Around D d) (p : Here d) (numbers : Passed) → Sound (finished (walked (walk_at o p numbers) ts)) →
    (e : Expression D) × (written D e [] ≡ around_written o (here_written d p ts))
unfolding walked
built q [] o p numbers s = ended o p numbers s
built q (t ∷ ts) o p numbers s =
    let g = goes q o p numbers t (good_so_far (step (walk_at o p numbers) t) ts s) in
    let s' : Sound (finished (walked (step (walk_at o p numbers) t) ts)) = s in
    let b = built q ts g.around g.here g.onward (rw g.walks at s') in
    (b.0, b.1 ∙ g.writes ts)

pub tokens_tree : (ts : List Token) → Sound (finished (walked start ts)) → (e : Expression deepest) × (written deepest e [] ≡ ts)
unfolding start walk_at open_in is_start around_written here_written ahead_written lead_written
tokens_tree ts s = built refl ts outermost (wants (begun bare) (begun nothing)) (false, 0) s
