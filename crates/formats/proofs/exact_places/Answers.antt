-- `formats::exact_places` meets its contract: the test of `exact_places`, made of the format in force.
-- Assumes nothing.
use Rattle.formats.proofs.Raised.{few}
use Rattle.formats.proofs.exact_places.Goals as goal

pub places-requires : goal.places-requires
places-requires c = rw c.in_force-g.ensures (few _)
