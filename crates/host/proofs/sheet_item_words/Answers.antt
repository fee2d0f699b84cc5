-- `host::sheet_item_words` meets its contract, by counting.
use mathlib.Core.Path.{refl}
use Rattle.descend.specs.Slots.{item_words}
use Rattle.host.proofs.sheet_item_words.Goals as goal

pub returns : goal.returns
unfolding item_words
returns c = record { words = λ t. refl }
