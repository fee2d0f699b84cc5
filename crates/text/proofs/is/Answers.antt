-- `text::is` meets its contract: `==` of slices is the comparison byte by byte.
use mathlib.Core.Path.{◌∙◌}
use Rattle.base.proofs.Lists.{same_pointwise}
use Rattle.text.proofs.is.Goals as goal

pub returns : goal.returns
returns c = c.eq.ensures ∙ same_pointwise _ _
