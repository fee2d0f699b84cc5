-- `quadrant::cross` meets its contract: the coordinates are small enough for exact products.
use native.Mathlib.Omega.{arith}
use Rattle.ints.proofs.Bounded.{back}
use Rattle.quadrant.specs.Vectors.{cross}
use Rattle.quadrant.proofs.cross.Goals as goal

pub difference_of_products-requires : goal.difference_of_products-requires
difference_of_products-requires c = let a = c.args in record {
  a_bound = (rw (back a.u.x (omega arith)) (omega arith), rw (back a.v.y (omega arith)) (omega arith));
  c_bound = (rw (back a.u.y (omega arith)) (omega arith), rw (back a.v.x (omega arith)) (omega arith));
}

pub returns : goal.returns
unfolding cross
returns c = let a = c.args in
    cc (back a.u.x (omega arith), back a.v.y (omega arith), back a.u.y (omega arith), back a.v.x (omega arith))
