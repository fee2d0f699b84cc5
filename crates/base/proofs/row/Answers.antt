-- `base::row` meets its contract: the two cases of `pick`.
use Rattle.base.specs.Choose.{pick}
use Rattle.base.proofs.row.Goals as goal

pub returns-then-test : goal.returns-then-test
unfolding pick
returns-then-test c = cc

pub returns-else-test : goal.returns-else-test
unfolding pick
returns-else-test c = cc
