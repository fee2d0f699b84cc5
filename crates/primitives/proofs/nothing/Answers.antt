-- `primitives::nothing` meets its contract, field by field.
-- Assumes nothing.
use Rattle.primitives.specs.Asked.{none, asked}
use mathlib.Core.Path.{refl}
use Rattle.primitives.proofs.nothing.Goals as goal

pub returns : goal.returns
unfolding none asked
returns c = refl
