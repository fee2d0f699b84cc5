-- `place::zero_item` meets its contract, by computation.
use Rattle.place.specs.Item.{zero_item}
use mathlib.Core.Path.{refl}
use Rattle.place.proofs.zero_item.Goals as goal

pub returns : goal.returns
unfolding zero_item
returns c = refl
