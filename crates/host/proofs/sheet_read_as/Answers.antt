-- `host::sheet_read_as` meets its contract: what is read by the numbers that are named, with its answer taken apart.
-- Assumes nothing.
use Rattle.host.proofs.Apart.{reads_into}
use Rattle.host.proofs.sheet_read_as.Goals as goal

pub returns : goal.returns
returns c =
    reads_into _ c.read_as-a.ensures c.answered.ensures
