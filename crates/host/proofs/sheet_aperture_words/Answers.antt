-- `host::sheet_aperture_words` meets its contract, by counting.
use mathlib.Core.Path.{refl}
use Rattle.tables.specs.Apertures.{aperture_words}
use Rattle.host.proofs.sheet_aperture_words.Goals as goal

pub returns : goal.returns
unfolding aperture_words
returns c = record { words = λ t. refl; room = λ a. refl }
