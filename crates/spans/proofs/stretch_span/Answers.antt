-- `spans::stretch_span` meets its contract: the high end and the step are small enough to be added.
use Rattle.ints.proofs.Bounded.{add_asks, add_gives, in_bits}
use Rattle.spans.specs.Spans.{span, stretch_span}
use lib.IntN.{pos}
use native.Mathlib.Omega.{arith}
use Rattle.spans.proofs.stretch_span.Goals as goal

pub overflow_add-result : goal.overflow_add-result
overflow_add-result c = let A = c.args in add_asks A.s.high (pos A.n) (omega arith)

pub returns : goal.returns
unfolding stretch_span
returns c = let A = c.args in λ i. span (in_bits A.s.low (omega arith) i) (add_gives A.s.high (pos A.n) (omega arith) i)
