-- `host::sheet_shape_words` meets its contract, by counting.
-- Assumes nothing.
use mathlib.Core.Path.{refl}
use Rattle.host.specs.Shapes.{shape_words}
use Rattle.host.proofs.sheet_shape_words.Goals as goal

pub returns : goal.returns
unfolding shape_words
returns c = record { words = λ t. refl }
