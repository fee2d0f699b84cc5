-- `spans::lesser` meets its contract: `min` of the library is `least`.
use Rattle.std.proofs.Common.{arith}
use Rattle.std.proofs.lemmas.Int.{ints}
use mir.Facts.{to_z-of_z}
use Rattle.spans.specs.Spans.{least}
use Rattle.spans.proofs.lesser.Goals as goal

pub returns : goal.returns
unfolding least
returns c = grind (arith, ints, to_z-of_z, c.min.ensures.value)
