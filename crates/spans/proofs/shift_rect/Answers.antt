-- `spans::shift_rect` meets its contract: the spans are shifted each way.
use Rattle.ints.proofs.Bounded.{in_bits}
use Rattle.spans.specs.Spans.{rect, shift_rect}
use native.Mathlib.Omega.{arith}
use Rattle.spans.proofs.shift_rect.Goals as goal

pub shift_span-requires : goal.shift_span-requires
shift_span-requires c = let A = c.args in let w = c.requires in (w.0.across_in, rw (in_bits A.p.x (omega arith)) w.1.across)

pub shift_span-requires-2 : goal.shift_span-requires-2
shift_span-requires-2 c = let A = c.args in let w = c.requires in (w.0.up_in, rw (in_bits A.p.y (omega arith)) w.1.up)

pub returns : goal.returns
unfolding shift_rect
returns c =
    let A = c.args in
    let x = rw (in_bits A.p.x (omega arith)) at c.shift_span.ensures in
    let y = rw (in_bits A.p.y (omega arith)) at c.shift_span-2.ensures in
    λ i. rect (x i) (y i)
