-- `reckon::kept` meets its contract: the test is the definition's, and a size that passes it fits.
use mathlib.Core.Path.{◌∙◌}
use Rattle.ints.proofs.Bounded.{back}
use Rattle.reckon.proofs.Nearest.{kept_large, kept_small}
use native.Mathlib.Omega.{arith}
use Rattle.reckon.proofs.kept.Goals as goal

pub returns-else-n-lt1000000000000 : goal.returns-else-n-lt1000000000000
returns-else-n-lt1000000000000 c = kept_large _ _ (omega arith)

pub returns-then-n-lt1000000000000 : goal.returns-then-n-lt1000000000000
returns-then-n-lt1000000000000 c = kept_small _ _ _ (omega arith) (back _ (omega arith) ∙ c.with_sign.ensures.0)
