-- `reckon::size_of_reach` meets its contract: the size of a product is the product of the sizes.
-- Assumes nothing.
use lib.IntN.{◌-ℤ◌}
use mir.Facts.{to_z-of_z}
use Rattle.reckon.proofs.Signs.{abs_mul}
use Rattle.reckon.proofs.size_of_reach.Goals as goal

pub returns : goal.returns
returns c = cc (abs_mul c.args.v (c.args.b -ℤ c.args.a), to_z-of_z c.ranges.v, to_z-of_z c.ranges.a, to_z-of_z c.ranges.b)
