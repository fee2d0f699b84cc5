-- `build::settle` meets its contract: the entries are turned over, and the opening entry lies apart from them.
use Rattle.build.proofs.Settling.{settles}
use Rattle.build.proofs.settle.Goals as goal

pub returns : goal.returns
returns c =
    settles _ _ _ _ _ c.requires c.turn_over.ensures c.put_entry.ensures c.put_entry.auto.e
