-- `host::sheet_mend` meets its contract: that of mending, with its answer taken apart.
-- Assumes nothing.
use Rattle.host.proofs.Mended.{mends_mended, mends_refused}
use Rattle.host.proofs.sheet_mend.Goals as goal

pub returns-in-Ok : goal.returns-in-Ok
returns-in-Ok c =
    mends_mended _ _ _ _ _ _ _ _ _ c.mend-a.ensures _ _ _ _ c.in-Ok.is

pub returns-in-Err : goal.returns-in-Err
returns-in-Err c =
    mends_refused _ _ _ _ _ _ _ _ _ c.mend-a.ensures _ c.in-Err.is
