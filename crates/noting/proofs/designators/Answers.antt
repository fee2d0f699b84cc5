-- `noting::designators` meets its contract: what the command says of each name decides, of the one and then of the other.
-- Assumes nothing.
use Rattle.noting.proofs.Known.{set_few}
use Rattle.noting.proofs.Hearing.{both_heard}
use native.Mathlib.Omega.{arith}
use mathlib.Core.Path.{refl}
use Rattle.noting.proofs.designators.Goals as goal

pub overflow_add-result : goal.overflow_add-result
overflow_add-result c =
    omega (arith, c.set_by-2.ensures, c.set_by.ensures, set_few c.saying_of-of_c.result, set_few c.saying_of-of_p.result)

pub returns : goal.returns
returns c =
    both_heard _ _ _ (rw c.saying_of-of_c.ensures at c.designator_after-component.ensures) (rw c.saying_of-of_p.ensures at c.designator_after-pin.ensures) (rw (c.set_by.ensures, c.set_by-2.ensures, c.saying_of-of_c.ensures, c.saying_of-of_p.ensures) refl)
