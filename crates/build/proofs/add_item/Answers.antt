-- `build::add_item` meets its contract: the entry is that of the item.
use Rattle.build.proofs.add_item.Goals as goal

pub returns : goal.returns
returns c = rw c.item_entry.ensures at c.add.ensures
