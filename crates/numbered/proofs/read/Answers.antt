-- `numbered::read` meets its contract: a reading by the book of the short call.
-- Assumes nothing.
use Rattle.numbered.proofs.Choices.{reads_so}
use Rattle.numbered.proofs.read.Goals as goal

pub returns : goal.returns
returns c =
    reads_so c.short_choice.ensures _ _ _ _ _ _ c.read_chosen.ensures
