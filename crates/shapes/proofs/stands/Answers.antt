use Rattle.shapes.proofs.Cutting.{first_is}
use mathlib.Core.Path.{ap}
use native.Mathlib.Omega.{arith}
use Rattle.shapes.proofs.stands.Goals as goal

pub overflow_add-behind : goal.overflow_add-behind
overflow_add-behind c = let p = c.primitive_at-p.ensures in let e = ap (λ q. q.first) p.0 in omega (arith, p.1, e, first_is c.args.numbers.now c.args.at, c.requires.0, c.requires.1)
