-- `build::finish` meets its contract: the top level is turned over, and the rest cleared.
use Rattle.build.proofs.Settling.{ends}
use Rattle.build.proofs.finish.Goals as goal

pub returns : goal.returns
returns c =
    ends _ _ _ _ c.requires c.turn_over.ensures c.clear_from.ensures
