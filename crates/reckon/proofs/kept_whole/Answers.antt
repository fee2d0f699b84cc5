-- `reckon::kept_whole` meets its contract: a number is its size with its sign.
use mir.Facts.{to_z-of_z}
use Rattle.ints.proofs.Bounded.{signed_parts}
use Rattle.reckon.proofs.kept_whole.Goals as goal

pub returns : goal.returns
returns c = cc (signed_parts c.args.z, to_z-of_z c.ranges.z)
