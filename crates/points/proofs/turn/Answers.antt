-- `points::turn` meets its contract: each arm is a case of `turned`, its coordinates taken from zero or as they were.
use mathlib.Core.Path.{◌≡◌}
use native.Mathlib.Omega.{arith}
use Rattle.ints.proofs.Bounded.{back, neg_gives}
use Rattle.points.specs.Points.{pt, turned}
use Rattle.points.proofs.turn.Goals as goal

pub returns-in-0 : goal.returns-in-0
unfolding turned
returns-in-0 c = rw c.in-0.is

pub returns-in-1 : goal.returns-in-1
unfolding turned
returns-in-1 c = let p = c.args.p in rw c.in-1.is (λ i. pt (neg_gives p.y (omega arith) i) (back p.x (omega arith) i))

pub returns-in-2 : goal.returns-in-2
unfolding turned
returns-in-2 c = let p = c.args.p in rw c.in-2.is (λ i. pt (neg_gives p.x (omega arith) i) (neg_gives p.y (omega arith) i))

pub returns-in_default : goal.returns-in_default
unfolding turned
returns-in_default c = let p = c.args.p in let e : c.args.n ≡ 3 = omega arith in rw e (λ i. pt (back p.y (omega arith) i) (neg_gives p.x (omega arith) i))
