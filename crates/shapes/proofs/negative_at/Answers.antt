-- `shapes::negative_at` meets its contract: past the end the number is 0.
use Rattle.ints.specs.Ints.{is_neg}
use lib.ListN.{get_or-eq_default}
use lib.IntN.{pos}
use Rattle.shapes.proofs.negative_at.Goals as goal

pub returns-else-i-numbers : goal.returns-else-i-numbers
unfolding is_neg
returns-else-i-numbers c = rw (get_or-eq_default c.args.numbers.now (pos 0) c.if-i-numbers.false)
