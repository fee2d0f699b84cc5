-- `product::low_pair` meets its contract: a mask of 32 ones takes the remainder by 2 ^ 32.
use lib.Bits.{and_mask, mask_lt}
use Rattle.product.proofs.low_pair.Goals as goal

pub overflow_cast-result : goal.overflow_cast-result
overflow_cast-result c = record { fits = mask_lt c.args.w 32 }

pub returns : goal.returns
returns c = and_mask c.args.w 32
