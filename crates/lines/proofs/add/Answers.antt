-- `lines::add` meets its contract: the bytes are copied into the part from the place on.
use Rattle.lines.proofs.Laws.{copied}
use Rattle.lines.proofs.add.Goals as goal

pub returns : goal.returns
returns c = copied _ _ _ _ c.requires c.copy_from_slice.ensures.after
