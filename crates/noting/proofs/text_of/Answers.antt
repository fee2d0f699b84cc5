-- `noting::text_of` meets its contract: what the command says of the name decides.
-- Assumes nothing.
use Rattle.noting.proofs.Hearing.{text_follows}
use Rattle.noting.proofs.text_of.Goals as goal

pub returns : goal.returns
returns c = text_follows _ _ (rw c.saying_of-s.ensures at c.text_after.ensures)
