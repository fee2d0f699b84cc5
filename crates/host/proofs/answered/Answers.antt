-- `host::answered` meets its contract: each answer has its number, its place and its values.
-- Assumes nothing.
use Rattle.host.proofs.Apart.{told_accepted, told_refused}
use Rattle.host.proofs.answered.Goals as goal

pub returns-in-Ok : goal.returns-in-Ok
returns-in-Ok c = told_accepted _ _ _ c.in-Ok.is

pub returns-in-Err : goal.returns-in-Err
returns-in-Err c = told_refused _ _ _ c.in-Err.is
