-- `wide::apart` meets its contract: it is the size of the difference.
use mathlib.Core.Path.{ap, ◌∙◌}
use lib.IntN.{nat_abs}
use Rattle.wide.proofs.apart.Goals as goal

pub returns : goal.returns
returns c = c.size.ensures ∙ ap nat_abs c.difference.ensures
