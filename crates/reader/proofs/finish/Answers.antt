-- `reader::finish` meets its contract: the head has the unit that is told.
-- Assumes nothing.
use mathlib.Core.Path.{sym}
use Rattle.reader.proofs.finish.Goals as goal

pub returns : goal.returns
returns c = (rw (sym c.unit_in.ensures) c.head_words.ensures, c.finish.ensures)
