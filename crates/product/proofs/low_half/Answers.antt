-- `product::low_half` meets its contract: a mask of 16 ones takes the remainder by 2 ^ 16.
use lib.Bits.{and_mask, mask_lt}
use Rattle.product.proofs.low_half.Goals as goal

pub overflow_cast-result : goal.overflow_cast-result
overflow_cast-result c = record { fits = mask_lt c.args.p 16 }

pub returns : goal.returns
returns c = and_mask c.args.p 16
