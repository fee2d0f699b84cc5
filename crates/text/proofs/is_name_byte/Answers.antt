-- `text::is_name_byte` meets its contract: `either` joins the tests of `name_byte`.
-- Assumes nothing.
use Rattle.text.specs.Name.{name_byte}
use Rattle.text.proofs.is_name_byte.Goals as goal

pub returns : goal.returns
unfolding name_byte
returns c = cc
