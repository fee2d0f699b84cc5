-- `product::same` meets its contract: two words are two digits in base 2 ^ 64, and the same number has the same digits.
use Prim.Native.Nat.{◌^◌}
use mathlib.Core.Path.{◌∙◌}
use native.Mathlib.Omega.{arith}
use Rattle.base.proofs.And.{and_is}
use Rattle.product.specs.Wide.{number}
use Rattle.product.proofs.Order.{digits_same}
use Rattle.product.proofs.same.Goals as goal

pub returns : goal.returns
unfolding number
returns c = let a = c.args in
    c.eq.ensures ∙ and_is _ _ ∙ digits_same (2 ^ 64) a.a.hi a.b.hi a.a.lo a.b.lo (omega arith) (omega arith)
