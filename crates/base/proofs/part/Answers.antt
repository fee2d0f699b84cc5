-- `base::part` meets its contract: a part is the rest, from its first place on, of what lies before its end.
use mathlib.Core.Path.{ap, ◌∙◌}
use lib.ListN.{drop}
use Rattle.base.proofs.part.Goals as goal

pub returns : goal.returns
returns c = c.from_on.ensures ∙ ap (drop c.args.from) c.up_to.ensures
