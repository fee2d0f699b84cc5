-- `host::sheet_primitive_words` meets its contract, by counting.
-- Assumes nothing.
use mathlib.Core.Path.{refl}
use Rattle.shapes.specs.Runs.{primitive_words}
use Rattle.host.proofs.sheet_primitive_words.Goals as goal

pub returns : goal.returns
unfolding primitive_words
returns c = record { words = λ t. refl }
