-- `text::ends` meets its contract: the library compares w with the last bytes, the other way round.
use mathlib.Core.Path.{◌∙◌}
use Rattle.base.proofs.Lists.{same_pointwise, same_swapped}
use Rattle.text.proofs.ends.Goals as goal

pub returns : goal.returns
returns c = c.ends_with.ensures.value ∙ same_pointwise _ _ ∙ same_swapped _ _
