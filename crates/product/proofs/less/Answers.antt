-- `product::less` meets its contract: two words are two digits in base 2 ^ 64, compared the high one first.
use Prim.Native.Nat.{◌^◌}
use mathlib.Core.Path.{◌≡◌, ap, ◌∙◌}
use mathlib.Core.Bool.{◌&&◌, ◌||◌}
use native.Mathlib.Omega.{arith}
use lib.Dec.{ltb, eqb}
use Rattle.std.proofs.lemmas.Bool.Decides.{nat_tests}
use Rattle.base.specs.Or.{◌or◌}
use Rattle.base.proofs.And.{and_is}
use Rattle.base.proofs.Or.{or_is}
use Rattle.product.specs.Wide.{number}
use Rattle.product.proofs.Order.{digits_less}
use Rattle.product.proofs.less.Goals as goal

pub returns : goal.returns
unfolding number
returns c =
    let a = c.args in
    let e : c.lt.result ≡ (ltb a.a.hi a.b.hi || (eqb a.a.hi a.b.hi && ltb a.a.lo a.b.lo)) = grind (arith, nat_tests, c.lt.ensures) in
    e ∙ or_is _ _ ∙ ap (λ t. ltb a.a.hi a.b.hi or t) (and_is _ _) ∙ digits_less (2 ^ 64) a.a.hi a.b.hi a.a.lo a.b.lo (omega arith) (omega arith)
