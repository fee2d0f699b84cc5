-- `apertures::defined` meets its contract: it is judged as `definition` says.
-- Assumes nothing.
use Rattle.apertures.specs.Definitions.{definition}
use Rattle.apertures.proofs.defined.Goals as goal

pub returns : goal.returns
unfolding definition
returns c =
    simp (
      c.judged.ensures,
      c.either-long.ensures,
      c.either-2.ensures,
      c.either-formless.ensures,
      c.either.ensures,
      c.parameters_of-ps.ensures,
      c.is_name-named.ensures,
      c.part-2.ensures,
      c.aperture_number-n.ensures,
      c.part.ensures,
    )
