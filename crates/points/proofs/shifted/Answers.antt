-- `points::shifted` meets its contract: each coordinate is a sum of two that are small enough for it.
use native.Mathlib.Omega.{arith}
use Rattle.ints.proofs.Bounded.{add_asks, add_gives}
use Rattle.points.specs.Points.{pt, shift}
use Rattle.points.proofs.shifted.Goals as goal

pub overflow_add-result : goal.overflow_add-result
overflow_add-result c = let a = c.args in add_asks a.p.x a.q.x (omega arith)

pub overflow_add-result-2 : goal.overflow_add-result-2
overflow_add-result-2 c =
    let a = c.args in add_asks a.p.y a.q.y (omega arith)

pub returns : goal.returns
unfolding shift
returns c =
    let a = c.args in
    λ i. pt (add_gives a.p.x a.q.x (omega arith) i) (add_gives a.p.y a.q.y (omega arith) i)
