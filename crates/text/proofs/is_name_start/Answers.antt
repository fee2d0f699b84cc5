-- `text::is_name_start` meets its contract: `either` joins the tests of `name_start`.
-- Assumes nothing.
use Rattle.text.specs.Name.{name_start}
use Rattle.text.proofs.is_name_start.Goals as goal

pub returns : goal.returns
unfolding name_start
returns c = cc
