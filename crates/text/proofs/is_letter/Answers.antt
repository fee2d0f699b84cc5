-- `text::is_letter` meets its contract: the library's two ranges are those of `letter`.
-- Assumes nothing.
use Rattle.base.specs.And.{◌and◌}
use Rattle.base.specs.Or.{◌or◌}
use Rattle.text.specs.Name.{letter}
use Rattle.text.proofs.is_letter.Goals as goal

pub returns : goal.returns
unfolding letter ◌and◌ ◌or◌
returns c = c.is_ascii_alphabetic.ensures.value
