-- `primitives::same` meets its contract: `ints::same` says so of what was stored.
-- Assumes nothing.
use mir.Facts.{to_z-of_z}
use borrow.Author.Rules.{sfits_of}
use Rattle.primitives.proofs.same.Goals as goal

pub returns : goal.returns
returns c = rw (c.same.ensures, to_z-of_z (sfits_of c.struct_told-1.given.0.1), to_z-of_z (sfits_of c.struct_told-2-1.given.0.1))
