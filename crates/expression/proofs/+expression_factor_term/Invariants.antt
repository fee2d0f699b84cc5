-- The bytes left fall: a term is tried where its expression begins, a factor where its term does, so each counts a third of a byte less;
-- an expression in parentheses has lost a byte. What was read so far, with the operators ahead, comes to the whole chain.
-- Assumes nothing.
use Rattle.std.proofs.Common.{◌-◌, length, drop, ◌+◌, ◌*◌}
use Rattle.macro_tokens.specs.Tokens.{tokens}
use Rattle.expression.specs.Grammar.{plus_minus, times_over, sum_by, product_by, factor_at, term_at, expression_at}
use Rattle.expression.proofs.Chain.{Chained}
use Rattle.expression.proofs.+expression_factor_term.Given as goal

abbrev pub decreases-expression : goal.decreases-expression
decreases-expression l = 3 * (length l.s.now - l.at) + 2

abbrev pub decreases-factor : goal.decreases-factor
decreases-factor l = 3 * (length l.s.now - l.at)

abbrev pub decreases-term : goal.decreases-term
decreases-term l = 3 * (length l.s.now - l.at) + 1

abbrev pub invariant-expression-loop-o : goal.invariant-expression-loop-o
invariant-expression-loop-o l =
    Chained plus_minus sum_by (term_at (length l.s) l.v.values (l.depth - 1)) l.s l.at l.w l.o
    (expression_at (length l.s) l.v.values l.depth (tokens (drop l.at l.s)))

abbrev pub decreases-expression-loop-o : goal.decreases-expression-loop-o
decreases-expression-loop-o l = length l.s - l.w.next

abbrev pub invariant-term-loop-o : goal.invariant-term-loop-o
invariant-term-loop-o l =
    Chained times_over product_by (factor_at (length l.s) l.v.values l.depth) l.s l.at l.w l.o
    (term_at (length l.s) l.v.values l.depth (tokens (drop l.at l.s)))

abbrev pub decreases-term-loop-o : goal.decreases-term-loop-o
decreases-term-loop-o l = length l.s - l.w.next
