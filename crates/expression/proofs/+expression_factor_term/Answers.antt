-- `expression`, `term` and `factor` meet their contracts: an expression is a chain of terms, a term one of factors, and a factor holds an
-- expression with one parenthesis less to open. They call each other in a cycle, and the bytes left fall.
-- Assumes nothing.
use Rattle.std.proofs.Common.{arith, ◌-◌, length, sym, ap, ◌∙◌}
use Rattle.macro_tokens.proofs.Tokens.{lexed_further}
use Rattle.expression.specs.Grammar.{plus_minus, times_over, sum_by, product_by, leaf_of, factor_at, term_at, expression_at}
use Rattle.expression.specs.Grammar as grammar
use Rattle.expression.proofs.Chain.{chain_starts, chain_again, chain_ends, chain_falls}
use Rattle.expression.proofs.Steps.{factor_nothing, factor_value, factor_open, open_inside, sign_leads, none_left, some_left}
use Rattle.expression.proofs.+expression_factor_term.Goals as goal

pub expression-returns-then-depth-eq0 : goal.expression-returns-then-depth-eq0
expression-returns-then-depth-eq0 t c =
    let a = c.args in
    none_left (length a.s.now) a.v.values a.s.now a.at a.depth c.if-depth-eq0.true

pub expression-term-requires : goal.expression-term-requires
expression-term-requires t c = (omega (arith, c.sign_at-sign.ensures.further), c.requires)

pub expression-loop-o-init : goal.expression-loop-o-init
unfolding grammar.expression
expression-loop-o-init t c =
    let a = c.args in
    let s = a.s.now in
    rw (some_left (length s) a.v.values s a.at a.depth c.if-depth-eq0.false)
    (chain_starts plus_minus sum_by (term_at (length s) a.v.values (a.depth - 1)) s a.at c.negate-w.result c.sign_after-o.result _
    (sign_leads (term_at (length s) a.v.values (a.depth - 1)) s a.at c.sign_at-sign.result c.term.result c.negate-w.result
    c.sign_at-sign.ensures c.term.ensures c.negate-w.ensures)
    c.sign_after-o.ensures)

pub expression-term-t-requires : goal.expression-term-t-requires
expression-term-t-requires t c =
    let l = c.loop-o in
    (omega (arith, l.invariant.follows.beyond c.loop-o-test.true, l.invariant.follows.inside c.loop-o-test.true, l.invariant.further), c.requires)

pub expression-summed-w-requires : goal.expression-summed-w-requires
expression-summed-w-requires t c = (c.loop-o.invariant.small, c.term-t.ensures.small)

pub expression-loop-o-smaller : goal.expression-loop-o-smaller
expression-loop-o-smaller t c =
    let l = c.loop-o in
    chain_falls plus_minus sum_by _ _ _ l.w c.term-t.result c.summed-w.result l.o _ l.invariant c.loop-o-test.true c.term-t.ensures.further c.summed-w.ensures.next

pub expression-loop-o-preserved : goal.expression-loop-o-preserved
expression-loop-o-preserved t c =
    let l = c.loop-o in
    chain_again plus_minus sum_by _ _ _ l.w c.term-t.result c.summed-w.result l.o c.sign_after-o-in-loop-o.result _ l.invariant c.loop-o-test.true c.term-t.ensures c.summed-w.ensures c.sign_after-o-in-loop-o.ensures

pub expression-returns : goal.expression-returns
expression-returns t c =
    let l = c.loop-o in
    chain_ends plus_minus sum_by _ _ _ l.w l.o _ l.invariant c.loop-o-test.false

pub factor-expression-requires : goal.factor-expression-requires
factor-expression-requires t c =
    let a = c.args in
    let s = a.s.now in
    let opens = sym c.in-Open.is ∙ c.leaf_of-f.ensures ∙ ap (λ x. leaf_of a.v.values x.token) c.token_at-l.ensures in
    let h = open_inside (length s) a.v.values (expression_at (length s) a.v.values a.depth) s a.at opens in
    (omega (arith, lexed_further s a.at h, ap (λ x. x.next) c.token_at-l.ensures), c.requires)

pub factor-returns-in-Nothing : goal.factor-returns-in-Nothing
factor-returns-in-Nothing t c =
    let a = c.args in
    let s = a.s.now in
    let none = sym c.in-Nothing.is ∙ c.leaf_of-f.ensures ∙ ap (λ x. leaf_of a.v.values x.token) c.token_at-l.ensures in
    rw c.token_at-l.ensures (factor_nothing (length s) a.v.values (expression_at (length s) a.v.values a.depth) s a.at none)

pub factor-returns-in-Value : goal.factor-returns-in-Value
factor-returns-in-Value t c =
    let a = c.args in
    let s = a.s.now in
    let value = sym c.in-Value.is ∙ c.leaf_of-f.ensures ∙ ap (λ x. leaf_of a.v.values x.token) c.token_at-l.ensures in
    rw c.token_at-l.ensures (factor_value (length s) a.v.values (expression_at (length s) a.v.values a.depth) s a.at c.requires _ value)

pub factor-returns-in-Open : goal.factor-returns-in-Open
factor-returns-in-Open t c =
    let a = c.args in
    let s = a.s.now in
    let opens = sym c.in-Open.is ∙ c.leaf_of-f.ensures ∙ ap (λ x. leaf_of a.v.values x.token) c.token_at-l.ensures in
    factor_open (length s) a.v.values (expression_at (length s) a.v.values a.depth) s a.at opens c.expression.result c.close.result
    (rw c.token_at-l.ensures at c.expression.ensures) c.close.ensures

pub term-factor-w-requires : goal.term-factor-w-requires
term-factor-w-requires t c = (omega arith, c.requires)

pub term-loop-o-init : goal.term-loop-o-init
unfolding grammar.term
term-loop-o-init t c =
    let a = c.args in
    let s = a.s.now in
    chain_starts times_over product_by (factor_at (length s) a.v.values a.depth) s a.at c.factor-w.result c.times_after-o.result _ c.factor-w.ensures c.times_after-o.ensures

pub term-factor-f-requires : goal.term-factor-f-requires
term-factor-f-requires t c =
    let l = c.loop-o in
    (omega (arith, l.invariant.follows.beyond c.loop-o-test.true, l.invariant.follows.inside c.loop-o-test.true, l.invariant.further), c.requires)

pub term-multiplied-w-requires : goal.term-multiplied-w-requires
term-multiplied-w-requires t c = (c.loop-o.invariant.small, c.factor-f.ensures.small)

pub term-loop-o-smaller : goal.term-loop-o-smaller
term-loop-o-smaller t c =
    let l = c.loop-o in
    chain_falls times_over product_by _ _ _ l.w c.factor-f.result c.multiplied-w.result l.o _ l.invariant c.loop-o-test.true c.factor-f.ensures.further c.multiplied-w.ensures.next

pub term-loop-o-preserved : goal.term-loop-o-preserved
term-loop-o-preserved t c =
    let l = c.loop-o in
    chain_again times_over product_by _ _ _ l.w c.factor-f.result c.multiplied-w.result l.o c.times_after-o-in-loop-o.result _ l.invariant c.loop-o-test.true c.factor-f.ensures c.multiplied-w.ensures c.times_after-o-in-loop-o.ensures

pub term-returns : goal.term-returns
term-returns t c =
    let l = c.loop-o in
    chain_ends times_over product_by _ _ _ l.w l.o _ l.invariant c.loop-o-test.false
