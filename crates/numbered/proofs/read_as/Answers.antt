-- `numbered::read_as` meets its contract: a reading by the book of two numbers.
-- Assumes nothing.
use Rattle.numbered.proofs.Choices.{reads_so}
use Rattle.numbered.proofs.read_as.Goals as goal

pub returns : goal.returns
returns c =
    reads_so c.choice_of.ensures _ _ _ _ _ _ c.read_chosen.ensures
