-- `reckon::size_of_product` meets its contract: the size of a product is the product of the sizes.
use mir.Facts.{to_z-of_z}
use Rattle.reckon.proofs.Signs.{abs_mul}
use Rattle.reckon.proofs.size_of_product.Goals as goal

pub returns : goal.returns
returns c = cc (abs_mul c.args.a c.args.b, to_z-of_z c.ranges.a, to_z-of_z c.ranges.b)
