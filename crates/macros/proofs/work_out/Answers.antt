-- `macros::work_out` meets its contract: `given` sets the variables, `blocks` works the macro out with them, `answered` says what comes of it.
-- Assumes nothing.
use Rattle.macros.proofs.Laid.{length_laid}
use lib.ListN.{length}
use mathlib.Core.Path.{ap, ◌∙◌}
use Rattle.macros.proofs.work_out.Goals as goal

pub blocks-d-requires : goal.blocks-d-requires
blocks-d-requires c = c.given-v.ensures.1

pub shape_of-numbers : goal.shape_of-numbers
shape_of-numbers c = ap length c.blocks-d.ensures.stores ∙ length_laid _ _ _

pub returns : goal.returns
returns c =
    let b = rw c.given-v.ensures.0 at c.blocks-d.ensures in
    record { says = rw (b.fault, b.pen) at c.answered.ensures; stores = b.stores }
