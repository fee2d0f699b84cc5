-- `build::open_block` meets its contract: the entry is that of a block that opens.
use Rattle.build.proofs.open_block.Goals as goal

pub returns : goal.returns
returns c = rw c.block_entry-r.ensures at c.begin.ensures
