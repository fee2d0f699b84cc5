-- `operations::fields_in` meets its contract: either way the coordinates of the format.
-- Assumes nothing.
use native.Mathlib.Omega.{arith}
use Rattle.formats.proofs.Exact.{exact_twelve}
use Rattle.operations.proofs.fields_in.Goals as goal

pub returns-then-n-eq0 : goal.returns-then-n-eq0
returns-then-n-eq0 c = c.raised_fields.ensures

pub exact_fields-requires : goal.exact_fields-requires
exact_fields-requires c = (omega (arith, c.if-n-eq0.false), omega (arith, c.exact_places-n.ensures, exact_twelve c.args.format))

pub returns : goal.returns
returns c = c.exact_fields.ensures _ c.exact_places-n.ensures
