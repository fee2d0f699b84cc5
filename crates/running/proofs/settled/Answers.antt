-- `running::settled` meets its contract.
-- Assumes nothing.
use Rattle.running.proofs.Settling.{settles_fault, settles_sheet, settles_tail}
use Rattle.running.proofs.settled.Goals as goal

pub returns-then-f-eq0 : goal.returns-then-f-eq0
returns-then-f-eq0 c = settles_sheet _ _ _ _ c.in-Ok.is c.if-f-eq0.true

pub returns-in-Err : goal.returns-in-Err
returns-in-Err c = settles_fault _ _ _ _ c.in-Err.is c.from.ensures

pub returns-else-f-eq0 : goal.returns-else-f-eq0
returns-else-f-eq0 c = settles_tail _ _ _ _ c.in-Ok.is c.if-f-eq0.false
