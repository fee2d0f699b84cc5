-- `build::add_edge` meets its contract: the edge is counted, and put.
use Rattle.build.specs.Counted.{edged}
use Rattle.build.proofs.add_edge.Goals as goal

pub returns : goal.returns
unfolding edged
returns c =
    rw c.count_edge.ensures at c.add_item.ensures
