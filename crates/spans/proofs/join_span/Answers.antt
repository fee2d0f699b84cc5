-- `spans::join_span` meets its contract: each end is the lesser or the greater of two.
use Rattle.ints.proofs.Bounded.{in_bits}
use Rattle.spans.specs.Spans.{span, join_span}
use native.Mathlib.Omega.{arith}
use mathlib.Core.Path.{◌∙◌}
use Rattle.spans.proofs.join_span.Goals as goal

pub returns : goal.returns
unfolding join_span
returns c =
    let A = c.args in let l = c.lesser in let g = c.greater in
    let low = rw (in_bits A.s.low (omega arith), in_bits A.t.low (omega arith)) at l.ensures in
    let high = rw (in_bits A.s.high (omega arith), in_bits A.t.high (omega arith)) at g.ensures in
    λ i. span ((in_bits l.result l.type_inv ∙ low) i) ((in_bits g.result g.type_inv ∙ high) i)
