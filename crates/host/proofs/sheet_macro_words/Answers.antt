-- `host::sheet_macro_words` meets its contract, by counting.
use mathlib.Core.Path.{refl}
use Rattle.tables.specs.Macros.{macro_words}
use Rattle.host.proofs.sheet_macro_words.Goals as goal

pub returns : goal.returns
unfolding macro_words
returns c = record { words = λ t. refl; room = λ m. refl }
