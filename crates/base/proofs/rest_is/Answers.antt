-- `base::rest_is` meets its contract: `==` of slices is the comparison byte by byte.
use mathlib.Core.Path.{◌∙◌}
use Rattle.base.proofs.Lists.{same_pointwise}
use Rattle.base.proofs.rest_is.Goals as goal

pub returns : goal.returns
returns c = rw (← c.from_on.ensures) (c.eq.ensures ∙ same_pointwise _ _)
