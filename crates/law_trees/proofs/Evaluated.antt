-- A written tree is read to its end, as its outcome: one law for the rows of both ranks, since both are the same chain.
-- Assumes nothing.
use Rattle.std.specs.Prelude.{None, Option, Some, ℤ}
use Prim.Native.Nat.{ℕ, zero, suc, ◌+◌, ◌-◌, ◌≤◌}
use mathlib.Core.Path.{◌≡◌, refl, sym, ap, ◌∙◌}
use mathlib.Core.Bool.{Bool, true, false}
use mathlib.Core.List.{List, ◌∷◌}
use native.Mathlib.Omega.{arith}
use lib.IntN.{ℤ}
use lib.ListN.{length}
use Rattle.macro_tokens.specs.declared.Token.{Token}
use Rattle.macro_tokens.specs.declared.Token.TheVariants.{Close}
use Rattle.expression.specs.declared.Sign.{Sign}
use Rattle.expression.specs.declared.Sign.TheVariants as sign
use Rattle.expression.specs.Grammar.{Reading, refused, reads, stop, go, head, tail, plus_minus, times_over, sum_by, product_by, following, after, kept, joined, chain, negated, leading, is_close, closed, leaf_of, begun, factor, term, expression, expression_at}
use Rattle.expression.proofs.Chain.{chain_stop, chain_go}
use Rattle.law_trees.specs.Tree.{Row, first, more, Factor, number, variable, inside, Lead, bare, plus, minus, Nothing, Term, Sum, Inner, Expression}
use Rattle.law_trees.specs.Written.{plus_or, times_or, row_written, lead_written, unled, factor_written, term_written, sum_written, inner_written, written}
use Rattle.law_trees.specs.Worth.{applied, row_worth, negative, lead_worth, as_is, factor_worth, term_worth, sum_worth, inner_worth, comes_to}

-- the operators of a row
operators : {L X : Type 0} → Row L X → ℕ
operators (first l x) = 0
operators (more r second x) = suc (operators r)

joined_kept : (op : ℤ → ℤ → Option ℤ) (a : ℤ) (us ts : List Token) (r : Option ℤ) → joined op (reads a us) (kept r ts) ≡ kept (applied op (Some a) r) ts
unfolding joined kept applied
joined_kept op a us ts None = refl
joined_kept op a us ts (Some b) = refl

after_kept : (rank : Token → Sign) (r : Option ℤ) (ts : List Token) → rank (head ts) ≡ sign.Nothing → after rank (kept r ts) ≡ stop
unfolding after kept following
after_kept rank None ts e = refl
after_kept rank (Some a) ts e = rw e

-- how a row is written
module _ {L X : Type 0} (operator : Bool → Token) (led : L → List Token → List Token) (operand_written : X → List Token → List Token)
    (led-longer : (l : L) (ts : List Token) → length ts ≤ length (led l ts))
    (operand-longer : (x : X) (ts : List Token) → length ts ≤ length (operand_written x ts)) where
  abbrev row : Row L X → List Token → List Token
  row = row_written operator led operand_written

  row_longer : (r : Row L X) (ts : List Token) → operators r + length ts ≤ length (row r ts)
  unfolding operators row_written
  row_longer (first l x) ts = let a = led-longer l (operand_written x ts) in let b = operand-longer x ts in omega arith
  row_longer (more r second x) ts =
      let a = row_longer r (operator second ∷ operand_written x ts) in
      let b = operand-longer x ts in
      omega arith

  -- its outcome, and how the grammar reads its first operand and the others; `lower` is the rank below it
  module _ (rank lower : Token → Sign) (op : Bool → ℤ → ℤ → Option ℤ) (led_worth : L → Option ℤ → Option ℤ) (operand_worth : X → Option ℤ)
      (start operand : List Token → Reading) (bound : ℕ)
      (goes : (second : Bool) (ts : List Token) → following (rank (operator second)) ts ≡ go second ts)
      (higher : (second : Bool) → lower (operator second) ≡ sign.Nothing)
      (starts : (l : L) (x : X) (ts : List Token) → lower (head ts) ≡ sign.Nothing → length (led l (operand_written x ts)) ≤ bound →
      start (led l (operand_written x ts)) ≡ kept (led_worth l (operand_worth x)) ts)
      (reads_on : (x : X) (ts : List Token) → lower (head ts) ≡ sign.Nothing → length (operand_written x ts) ≤ bound →
      operand (operand_written x ts) ≡ kept (operand_worth x) ts) where
    abbrev worth : Row L X → Option ℤ
    worth = row_worth op led_worth operand_worth

    abbrev on : ℕ → Reading → Reading
    on = chain rank op operand

    one_more : (n : ℕ) (r : Option ℤ) (second : Bool) (x : X) (ts : List Token) → lower (head ts) ≡ sign.Nothing → length (operand_written x ts) ≤ bound →
        on (suc n) (kept r (operator second ∷ operand_written x ts)) ≡ on n (kept (applied (op second) r (operand_worth x)) ts)
    unfolding kept applied after head tail
    one_more n None second x ts e h = chain_stop rank op operand (suc n) refused refl ∙ sym (chain_stop rank op operand n refused refl)
    one_more n (Some a) second x ts e h =
        let us : List Token = operator second ∷ operand_written x ts in
        chain_go rank op operand n (reads a us) second (operand_written x ts) (goes second (operand_written x ts))
        ∙ ap (λ (w : Reading). on n (joined (op second) (reads a us) w)) (reads_on x ts e h)
        ∙ ap (on n) (joined_kept (op second) a us ts (operand_worth x))

    row_reads : (r : Row L X) (n : ℕ) (ts : List Token) → lower (head ts) ≡ sign.Nothing → length (row r ts) ≤ bound →
        on (n + operators r) (start (row r ts)) ≡ on n (kept (worth r) ts)
    unfolding operators row_written row_worth head
    row_reads (first l x) n ts e h = let z : n + 0 ≡ n = omega arith in rw (z, starts l x ts e h)
    row_reads (more r second x) n ts e h =
        let z : n + suc (operators r) ≡ suc n + operators r = omega arith in
        let k = row_longer r (operator second ∷ operand_written x ts) in
        rw z (row_reads r (suc n) (operator second ∷ operand_written x ts) (higher second) h ∙ one_more n (worth r) second x ts e (omega arith))

    -- up to what is no operator of this rank or of the one below it
    row_whole : (r : Row L X) (ts : List Token) → rank (head ts) ≡ sign.Nothing → lower (head ts) ≡ sign.Nothing → length (row r ts) ≤ bound →
        on bound (start (row r ts)) ≡ kept (worth r) ts
    row_whole r ts e f h =
        let k = row_longer r ts in
        let z : bound ≡ (bound - operators r) + operators r = omega arith in
        ap (λ (n : ℕ). on n (start (row r ts))) z
        ∙ row_reads r (bound - operators r) ts f h
        ∙ chain_stop rank op operand (bound - operators r) (kept (worth r) ts) (after_kept rank (worth r) ts e)

-- ---- the two ranks

-- a factor may stand before anything
abbrev none : Token → Sign
none t = sign.Nothing

times_goes : (second : Bool) (ts : List Token) → following (times_over (times_or second)) ts ≡ go second ts
unfolding following times_over times_or
times_goes true ts = refl
times_goes false ts = refl

plus_goes : (second : Bool) (ts : List Token) → following (plus_minus (plus_or second)) ts ≡ go second ts
unfolding following plus_minus plus_or
plus_goes true ts = refl
plus_goes false ts = refl

plus_higher : (second : Bool) → times_over (plus_or second) ≡ sign.Nothing
unfolding times_over plus_or
plus_higher true = refl
plus_higher false = refl

lead_longer : (l : Lead) (ts : List Token) → length ts ≤ length (lead_written l ts)
unfolding lead_written
lead_longer bare ts = omega arith
lead_longer plus ts = omega arith
lead_longer minus ts = omega arith

stayed : (r : Option ℤ) (ts : List Token) → negated false (kept r ts) ≡ kept r ts
unfolding negated kept
stayed None ts = refl
stayed (Some a) ts = refl

turned : (r : Option ℤ) (ts : List Token) → negated true (kept r ts) ≡ kept (negative r) ts
unfolding negated kept negative
turned None ts = refl
turned (Some a) ts = refl

closed_kept : (r : Option ℤ) (ts : List Token) → closed (kept r (Close ∷ ts)) ≡ kept r ts
unfolding closed kept is_close head tail
closed_kept None ts = refl
closed_kept (Some a) ts = refl

-- E is what stands in parentheses
module _ {E : Type 0} (inner : E → List Token → List Token) (inner-longer : (e : E) (ts : List Token) → length ts ≤ length (inner e ts)) where
  factor_longer : (x : Factor E) (ts : List Token) → length ts ≤ length (factor_written inner x ts)
  unfolding factor_written
  factor_longer (number n) ts = omega arith
  factor_longer (variable n) ts = omega arith
  factor_longer (inside e) ts = let h = inner-longer e (Close ∷ ts) in omega arith

  term_longer : (x : Term E) (ts : List Token) → length ts ≤ length (term_written inner x ts)
  unfolding term_written
  term_longer x ts = let h = row_longer times_or unled (factor_written inner) (λ l ts. omega arith) factor_longer x ts in omega arith

  sum_longer : (x : Sum E) (ts : List Token) → length ts ≤ length (sum_written inner x ts)
  unfolding sum_written
  sum_longer x ts = let h = row_longer plus_or lead_written (term_written inner) lead_longer term_longer x ts in omega arith

  -- a term begins with no sign
  term_unsigned : (x : Term E) (ts : List Token) → plus_minus (head (term_written inner x ts)) ≡ sign.Nothing
  unfolding term_written row_written factor_written head plus_minus
  term_unsigned (first l (number n)) ts = refl
  term_unsigned (first l (variable n)) ts = refl
  term_unsigned (first l (inside e)) ts = refl
  term_unsigned (more r second x) ts = term_unsigned r (times_or second ∷ factor_written inner x ts)

  module _ (inner_worth : E → Option ℤ) (bound : ℕ) (variables : List ℤ) (parentheses : List Token → Reading)
      (inner-reads : (e : E) (ts : List Token) → length (inner e (Close ∷ ts)) ≤ bound → parentheses (inner e (Close ∷ ts)) ≡ kept (inner_worth e) (Close ∷ ts)) where
    factor_reads : (x : Factor E) (ts : List Token) → length (factor_written inner x ts) ≤ bound →
        factor bound variables parentheses (factor_written inner x ts) ≡ kept (factor_worth variables inner_worth x) ts
    unfolding factor factor_written factor_worth leaf_of begun kept head tail
    factor_reads (number n) ts h = refl
    factor_reads (variable n) ts h = refl
    factor_reads (inside x) ts h = ap closed (inner-reads x ts (omega arith)) ∙ closed_kept (inner_worth x) ts

    term_reads : (x : Term E) (ts : List Token) → times_over (head ts) ≡ sign.Nothing → length (term_written inner x ts) ≤ bound →
        term bound variables parentheses (term_written inner x ts) ≡ kept (term_worth variables inner_worth x) ts
    unfolding term term_written term_worth
    term_reads x ts e h =
        row_whole times_or unled (factor_written inner) (λ l ts. omega arith) factor_longer times_over none product_by as_is (factor_worth variables inner_worth)
        (factor bound variables parentheses) (factor bound variables parentheses) bound times_goes (λ second. refl)
        (λ l x ts e h. factor_reads x ts h) (λ x ts e h. factor_reads x ts h) x ts e refl h

    -- the first term, after its sign
    abbrev led : List Token → Reading
    led ts = leading (term bound variables parentheses) (following (plus_minus (head ts)) (tail ts)) ts

    led_reads : (l : Lead) (x : Term E) (ts : List Token) → times_over (head ts) ≡ sign.Nothing → length (lead_written l (term_written inner x ts)) ≤ bound →
        led (lead_written l (term_written inner x ts)) ≡ kept (lead_worth l (term_worth variables inner_worth x)) ts
    unfolding lead_written lead_worth leading following plus_minus head tail
    led_reads bare x ts e h = rw (term_unsigned x ts) (term_reads x ts e h)
    led_reads plus x ts e h = ap (negated false) (term_reads x ts e (omega arith)) ∙ stayed (term_worth variables inner_worth x) ts
    led_reads minus x ts e h = ap (negated true) (term_reads x ts e (omega arith)) ∙ turned (term_worth variables inner_worth x) ts

    sum_reads : (x : Sum E) (ts : List Token) → plus_minus (head ts) ≡ sign.Nothing → times_over (head ts) ≡ sign.Nothing → length (sum_written inner x ts) ≤ bound →
        expression bound variables parentheses (sum_written inner x ts) ≡ kept (sum_worth variables inner_worth x) ts
    unfolding expression sum_written sum_worth
    sum_reads x ts e f h =
        row_whole plus_or lead_written (term_written inner) lead_longer term_longer plus_minus times_over sum_by lead_worth (term_worth variables inner_worth)
        led (term bound variables parentheses) bound plus_goes plus_higher led_reads term_reads x ts e f h

-- ---- parentheses

within_longer : (depth : ℕ) (e : Inner depth) (ts : List Token) → length ts ≤ length (inner_written depth e ts)
unfolding inner_written
within_longer zero e ts = absurd e
within_longer (suc depth) e ts = sum_longer (inner_written depth) (within_longer depth) e ts

module _ (bound : ℕ) (variables : List ℤ) where
  within_reads : (depth : ℕ) (e : Inner depth) (ts : List Token) → length (inner_written depth e (Close ∷ ts)) ≤ bound →
      expression_at bound variables depth (inner_written depth e (Close ∷ ts)) ≡ kept (inner_worth variables depth e) (Close ∷ ts)
  unfolding inner_written inner_worth expression_at plus_minus times_over head
  within_reads zero e ts h = absurd e
  within_reads (suc depth) e ts h =
      sum_reads (inner_written depth) (within_longer depth) (inner_worth variables depth) bound variables (expression_at bound variables depth) (within_reads depth)
      e (Close ∷ ts) refl refl h

  -- a tree is read up to what is no operator after it
  pub tree_reads : (depth : ℕ) (e : Expression depth) (ts : List Token) → plus_minus (head ts) ≡ sign.Nothing → times_over (head ts) ≡ sign.Nothing →
      length (written depth e ts) ≤ bound → expression_at bound variables (suc depth) (written depth e ts) ≡ kept (comes_to variables depth e) ts
  unfolding written comes_to expression_at
  tree_reads depth e ts p q h =
      sum_reads (inner_written depth) (within_longer depth) (inner_worth variables depth) bound variables (expression_at bound variables depth) (within_reads depth)
      e ts p q h
