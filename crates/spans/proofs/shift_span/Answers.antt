-- `spans::shift_span` meets its contract: each end is a sum of two numbers that are small enough for it.
use Rattle.ints.proofs.Bounded.{add_asks, add_gives}
use Rattle.spans.specs.Spans.{span, shift_span}
use native.Mathlib.Omega.{arith}
use Rattle.spans.proofs.shift_span.Goals as goal

pub overflow_add-result : goal.overflow_add-result
overflow_add-result c = let A = c.args in add_asks A.s.low A.d (omega arith)

pub overflow_add-result-2 : goal.overflow_add-result-2
overflow_add-result-2 c = let A = c.args in add_asks A.s.high A.d (omega arith)

pub returns : goal.returns
unfolding shift_span
returns c = let A = c.args in λ i. span (add_gives A.s.low A.d (omega arith) i) (add_gives A.s.high A.d (omega arith) i)
