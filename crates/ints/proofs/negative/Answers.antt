-- `ints::negative` meets its contract: the number read back from its bits is the number, and its sign is what the test finds.
use Rattle.ints.proofs.Bounded.{is_neg_lem}
use Rattle.ints.proofs.negative.Goals as goal

pub returns : goal.returns
returns c = is_neg_lem c.args.a c.ranges.a
