-- `build::open_repeat` meets its contract: the entry is that of a repeat that opens.
use Rattle.build.proofs.open_repeat.Goals as goal

pub returns : goal.returns
returns c = rw c.repeat_entry-r.ensures at c.begin.ensures
