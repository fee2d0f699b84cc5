-- `host::sheet_row_words` meets its contract, by counting.
use mathlib.Core.Path.{refl}
use borrow.Author.Tests.{ltb-true}
use Rattle.base.proofs.And.{and_l}
use Rattle.summary_by_aperture.specs.Kept.{row_words}
use Rattle.summary_by_aperture.specs.Answers.{roomy}
use Rattle.host.proofs.sheet_row_words.Goals as goal

pub returns : goal.returns
unfolding row_words roomy
returns c = record { words = λ t. refl; room = λ n words scratch z. ltb-true _ _ (and_l _ _ z) }
