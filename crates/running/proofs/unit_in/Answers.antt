-- `running::unit_in` meets its contract: its test is that of `unit_in`.
-- Assumes nothing.
use Rattle.running.specs.Units.{unit_in}
use Rattle.running.proofs.unit_in.Goals as goal

pub returns : goal.returns
unfolding unit_in
returns c = cc
