-- `decimal::carry` meets its contract: a test that holds counts for one.
use mathlib.Core.Path.{ap, ◌∙◌}
use lib.Dec.{leb}
use mathlib.Core.Bool.{cond}
use Rattle.decimal.proofs.Ways.{counted}
use Rattle.decimal.specs.Kept.{carry_of}
use Rattle.decimal.proofs.carry.Goals as goal

pub returns : goal.returns
unfolding carry_of
returns c = c.from.ensures ∙ counted _ ∙ ap (λ b. cond (leb 53 b) 1 0) c.byte_at.ensures
