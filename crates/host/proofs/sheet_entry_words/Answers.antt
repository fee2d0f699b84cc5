-- `host::sheet_entry_words` meets its contract, by counting.
use mathlib.Core.Path.{refl}
use Rattle.sheet.specs.Records.{entry_words}
use Rattle.host.proofs.sheet_entry_words.Goals as goal

pub returns : goal.returns
unfolding entry_words
returns c = record { words = λ t. refl; room = λ e. refl }
