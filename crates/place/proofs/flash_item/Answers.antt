-- `place::flash_item` meets its contract: the item is placed, then brought.
use Rattle.place.specs.Outer.{flashed_by}
use Rattle.place.proofs.flash_item.Goals as goal

pub returns : goal.returns
unfolding flashed_by
returns c = cc
