-- `wide::difference` meets its contract: a difference is a sum with the opposite, which has the same size.
use mathlib.Core.Path.{ap, ◌∙◌}
use lib.IntN.{◌+ℤ◌}
use Rattle.ints.proofs.Bounded.{abs_neg}
use Rattle.wide.specs.Whole.{whole}
use Rattle.wide.proofs.difference.Goals as goal

pub sum-requires : goal.sum-requires
sum-requires c = record {
  x_bound = c.requires.x_bound;
  y_bound = rw (c.opposite.ensures, abs_neg (whole c.args.y)) c.requires.y_bound;
}

pub returns : goal.returns
returns c = c.sum.ensures ∙ ap (λ z. whole c.args.x +ℤ z) c.opposite.ensures
