-- `mending::is_followed` meets its contract: the byte that `skip` stops at tells.
-- Assumes nothing.
use Rattle.mending.proofs.Followed.{followed}
use Rattle.mending.proofs.is_followed.Goals as goal

pub returns : goal.returns
returns c = rw (followed c.args.file.now c.args.from) cc
