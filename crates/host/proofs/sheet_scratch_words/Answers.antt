-- `host::sheet_scratch_words` meets its contract, by the rule for scratch.
use borrow.Author.Tests.{leb-true}
use Rattle.base.proofs.And.{and_r}
use Rattle.summary_by_aperture.specs.Answers.{roomy}
use Rattle.host.proofs.sheet_scratch_words.Goals as goal

pub returns : goal.returns
unfolding roomy
returns c = record { room = λ n words scratch z. leb-true _ _ (and_r _ _ z) }
