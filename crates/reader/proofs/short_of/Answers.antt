-- `reader::short_of` meets its contract: the edition that is not named, with the letters that are.
-- Assumes nothing.
use mathlib.Core.Path.{refl}
use Rattle.reader.specs.Short.{short_of}
use Rattle.reader.proofs.short_of.Goals as goal

pub returns : goal.returns
unfolding short_of
returns c = refl
