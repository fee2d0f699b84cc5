-- `points::flip` meets its contract: x is taken from zero, and read back from its bits it is -x.
use native.Mathlib.Omega.{arith}
use Rattle.ints.proofs.Bounded.{back, neg_gives}
use Rattle.points.specs.Points.{pt, flipped}
use Rattle.points.proofs.flip.Goals as goal

pub returns-then-f : goal.returns-then-f
unfolding flipped
returns-then-f c = let a = c.args in
    rw c.if-f.true (λ i. pt (neg_gives a.p.x (omega arith) i) (back a.p.y (omega arith) i))

pub returns-else-f : goal.returns-else-f
unfolding flipped
returns-else-f c = rw c.if-f.false
