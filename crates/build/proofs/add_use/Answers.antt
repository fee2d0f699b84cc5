-- `build::add_use` meets its contract: the entry is that of the flash, and the height is raised.
use Rattle.build.proofs.add_use.Goals as goal

pub returns : goal.returns
returns c = rw (c.use_entry.ensures, c.raise-h.ensures) at c.add.ensures
