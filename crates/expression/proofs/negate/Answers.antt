-- `expression::negate` meets its contract: with a minus its value has the other sign, without one it stays.
-- Assumes nothing.
use Rattle.expression.proofs.Sizes.{stored_small}
use Rattle.expression.proofs.Told.{turn, stay}
use native.Mathlib.Omega.{arith}
use mathlib.Core.Path.{◌≡◌, ap, ◌∙◌}
use lib.IntN.{nat_abs, neg_ℤ}
use Prim.Native.Nat.{◌^◌, ◌<◌}
use Rattle.expression.proofs.negate.Goals as goal

pub neg-requires : goal.neg-requires
neg-requires c = rw (stored_small c.args.w.value.millionths c.requires) (omega (arith, c.requires))

pub returns-then-minus : goal.returns-then-minus
returns-then-minus c =
    let w = c.args.w in
    let e = stored_small w.value.millionths c.requires in
    let v = c.neg.result in
    let n : nat_abs v ≡ nat_abs w.value.millionths = c.neg.ensures.1 ∙ ap nat_abs e in
    let h : nat_abs v < 10 ^ 12 = omega (arith, c.requires) in
    rw (c.if-minus.true, stored_small v h) (turn w v (c.neg.ensures.0 ∙ ap neg_ℤ e) n c.requires)

pub returns : goal.returns
returns c = rw c.if-minus.false (stay c.args.w c.requires)
