-- `spans::neg_span` meets its contract: each end is the other taken from zero.
use Rattle.ints.proofs.Bounded.{neg_gives}
use Rattle.spans.specs.Spans.{span, neg_span}
use native.Mathlib.Omega.{arith}
use Rattle.spans.proofs.neg_span.Goals as goal

pub returns : goal.returns
unfolding neg_span
returns c = let s = c.args.s in λ i. span (neg_gives s.high (omega arith) i) (neg_gives s.low (omega arith) i)
