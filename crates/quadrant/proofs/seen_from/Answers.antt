-- `quadrant::seen_from` meets its contract: each coordinate is a difference of two that are small enough for it.
use Rattle.ints.proofs.Bounded.{sub_asks, sub_gives}
use Rattle.points.specs.Points.{pt}
use Rattle.reckon.specs.ArcCentre.{seen_from}
use native.Mathlib.Omega.{arith}
use Rattle.quadrant.proofs.seen_from.Goals as goal

pub overflow_sub-result : goal.overflow_sub-result
overflow_sub-result c = let a = c.args in sub_asks a.q.x a.p.x (omega arith)

pub overflow_sub-result-2 : goal.overflow_sub-result-2
overflow_sub-result-2 c = let a = c.args in sub_asks a.q.y a.p.y (omega arith)

pub returns : goal.returns
unfolding seen_from
returns c = let a = c.args in
    λ i. pt (sub_gives a.q.x a.p.x (omega arith) i) (sub_gives a.q.y a.p.y (omega arith) i)
