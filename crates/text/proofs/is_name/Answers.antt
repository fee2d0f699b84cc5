-- `text::is_name` meets its contract: `both` joins the three tests of `is_name`.
-- Assumes nothing.
use Rattle.text.specs.Name.{is_name}
use Rattle.text.proofs.is_name.Goals as goal

pub returns : goal.returns
unfolding is_name
returns c = cc
