-- `wide::opposite` meets its contract: the other sign is the negation.
use Rattle.wide.proofs.Sizes.{opposite_is}
use Rattle.wide.proofs.opposite.Goals as goal

pub returns : goal.returns
returns c = opposite_is c.args.x
