-- `spans::turn_rect` meets its contract: each arm is a case of `turn_rect`.
use Rattle.spans.specs.Spans.{rect, turn_rect}
use native.Mathlib.Omega.{arith}
use mathlib.Core.Path.{◌≡◌}
use Rattle.spans.proofs.turn_rect.Goals as goal

pub returns-in-0 : goal.returns-in-0
unfolding turn_rect
returns-in-0 c = rw c.in-0.is

pub returns-in-1 : goal.returns-in-1
unfolding turn_rect
returns-in-1 c = rw c.in-1.is (λ i. rect (c.neg_span.ensures i) c.args.b.across)

pub returns-in-2 : goal.returns-in-2
unfolding turn_rect
returns-in-2 c = rw c.in-2.is (λ i. rect (c.neg_span-in-2.ensures i) (c.neg_span-in-2-2.ensures i))

pub returns-in_default : goal.returns-in_default
unfolding turn_rect
returns-in_default c = let e : c.args.n ≡ 3 = omega arith in rw e (λ i. rect c.args.b.up (c.neg_span-in_default.ensures i))
