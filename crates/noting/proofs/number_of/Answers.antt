-- `noting::number_of` meets its contract: what the command says of the name decides.
-- Assumes nothing.
use Rattle.noting.proofs.Hearing.{text_follows}
use Rattle.noting.proofs.number_of.Goals as goal

pub returns : goal.returns
returns c = text_follows _ _ (rw c.saying_of-s.ensures at c.number_after.ensures)
