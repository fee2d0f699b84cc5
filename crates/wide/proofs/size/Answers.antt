-- `wide::size` meets its contract: the size of a number is its two words.
use mathlib.Core.Path.{sym}
use Rattle.wide.proofs.Sizes.{size_is}
use Rattle.wide.proofs.size.Goals as goal

pub returns : goal.returns
returns c = sym (size_is c.args.x)
