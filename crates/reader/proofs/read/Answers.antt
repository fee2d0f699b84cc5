-- `reader::read` meets its contract: the reading by the edition that it reads and the letters that are named.
-- Assumes nothing.
use Rattle.reader.proofs.Short.{reads_same}
use Rattle.reader.proofs.read.Goals as goal

pub returns : goal.returns
returns c =
    reads_same c.short_of-book.ensures _ _ _ _ _ _ c.read_as.ensures
