-- `shapes::primitive_at` meets its contract: x
-- Assumes nothing.
use native.Mathlib.Omega.{arith}
use Rattle.shapes.specs.Primitives.{primitive_at}
use Rattle.shapes.proofs.primitive_at.Goals as goal

pub returns : goal.returns
unfolding primitive_at
returns c = (rw (c.index.ensures, c.size_at-n.ensures), omega (arith, c.index.ensures))
