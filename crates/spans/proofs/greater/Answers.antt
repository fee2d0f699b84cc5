-- `spans::greater` meets its contract: `max` of the library is `greatest`.
use Rattle.std.proofs.Common.{arith}
use Rattle.std.proofs.lemmas.Int.{ints}
use mir.Facts.{to_z-of_z}
use Rattle.spans.specs.Spans.{greatest}
use Rattle.spans.proofs.greater.Goals as goal

pub returns : goal.returns
unfolding greatest
returns c = grind (arith, ints, to_z-of_z, c.max.ensures.value)
