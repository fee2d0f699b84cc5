-- `wide::below` meets its contract: x is below y where x - y is below zero.
use mathlib.Core.Path.{ap, ◌∙◌}
use Rattle.ints.specs.Ints.{is_neg}
use Rattle.wide.specs.Whole.{whole}
use Rattle.wide.proofs.Sizes.{below_is}
use Rattle.wide.proofs.below.Goals as goal

pub returns : goal.returns
returns c = c.negative.ensures ∙ ap is_neg c.difference.ensures ∙ below_is (whole c.args.x) (whole c.args.y)
