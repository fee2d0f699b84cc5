-- `host::sheet_read` meets its contract: the short call, with its answer taken apart.
-- Assumes nothing.
use Rattle.host.proofs.Apart.{reads_into}
use Rattle.host.proofs.sheet_read.Goals as goal

pub returns : goal.returns
returns c =
    reads_into _ c.read-a.ensures c.answered.ensures
