-- `quadrant::dot` meets its contract: the coordinates are small enough for exact products.
use native.Mathlib.Omega.{arith}
use Rattle.ints.proofs.Bounded.{back}
use Rattle.quadrant.specs.Vectors.{dot}
use Rattle.quadrant.proofs.dot.Goals as goal

pub sum_of_products-requires : goal.sum_of_products-requires
sum_of_products-requires c = let a = c.args in record {
  a_bound = (rw (back a.u.x (omega arith)) (omega arith), rw (back a.v.x (omega arith)) (omega arith));
  c_bound = (rw (back a.u.y (omega arith)) (omega arith), rw (back a.v.y (omega arith)) (omega arith));
}

pub returns : goal.returns
unfolding dot
returns c = let a = c.args in
    cc (back a.u.x (omega arith), back a.v.x (omega arith), back a.u.y (omega arith), back a.v.y (omega arith))
