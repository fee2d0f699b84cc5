-- The unit of a file (01, What is read): MO's; in the old edition "The first G70 or G71 sets the unit where no MO does" (02, [9]).
use Rattle.std.specs.Prelude.{ℕ, eqb}
use Rattle.base.specs.Choose.{pick}
use Rattle.graphics.specs.declared.Header.{Header}

unfoldable pub unit_in : Header → ℕ
unit_in h = pick (eqb h.unit 0) h.coded h.unit
