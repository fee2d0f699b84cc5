-- `wide::times` meets its contract: the sizes are multiplied, and the sign is minus where the signs differ.
use mir.Facts.{to_z-of_z}
use Rattle.wide.specs.Whole.{whole}
use Rattle.wide.proofs.Sizes.{product_parts}
use Rattle.wide.proofs.times.Goals as goal

pub returns : goal.returns
unfolding whole
returns c = cc (product_parts c.args.a c.args.b, to_z-of_z c.ranges.a, to_z-of_z c.ranges.b)
