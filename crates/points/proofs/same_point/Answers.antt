-- `points::same_point` meets its contract: the derived `==` compares each coordinate.
use mathlib.Core.Path.{◌∙◌}
use Rattle.base.specs.And.{◌and◌}
use Rattle.base.proofs.And.{and_is}
use Rattle.ints.proofs.Order.{eq_derived}
use Rattle.points.specs.Points.{same_point}
use Rattle.points.proofs.same_point.Goals as goal

pub returns : goal.returns
unfolding same_point
returns c =
    let a = c.args in
    c.eq.ensures ∙ and_is _ _ ∙ (λ i. eq_derived a.p.x a.q.x i and eq_derived a.p.y a.q.y i)
