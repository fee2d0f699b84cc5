-- `spans::rect_at` meets its contract: all four ends are the point's.
use Rattle.ints.proofs.Bounded.{in_bits}
use Rattle.spans.specs.Spans.{span, rect, rect_at, span_at}
use native.Mathlib.Omega.{arith}
use Rattle.spans.proofs.rect_at.Goals as goal

pub returns : goal.returns
unfolding rect_at span_at
returns c = let p = c.args.p in λ i. rect (span (in_bits p.x (omega arith) i) (in_bits p.x (omega arith) i)) (span (in_bits p.y (omega arith) i) (in_bits p.y (omega arith) i))
