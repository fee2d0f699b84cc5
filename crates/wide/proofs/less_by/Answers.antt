-- `wide::less_by` meets its contract: where the low word is too small it borrows from the high one, which is large enough.
use Prim.Native.Nat.{◌<◌, ◌^◌}
use native.Mathlib.Omega.{arith}
use Rattle.product.specs.Wide.{number}
use Rattle.wide.proofs.Words.{borrowed}
use Rattle.wide.proofs.less_by.Goals as goal

pub overflow_sub-result : goal.overflow_sub-result
unfolding number
overflow_sub-result c = let low : c.args.a.lo < 2 ^ 64 = omega arith in omega (arith, c.requires)

pub overflow_sub-result-2 : goal.overflow_sub-result-2
unfolding number
overflow_sub-result-2 c =
    let o = c.overflowing_sub-lo in
    let k = borrowed o.result.1 o.ensures.value o.ensures.overflow c.from.ensures (omega arith) (omega arith) in
    omega (arith, k, c.requires)

pub returns : goal.returns
unfolding number
returns c =
    let o = c.overflowing_sub-lo in
    let k = borrowed o.result.1 o.ensures.value o.ensures.overflow c.from.ensures (omega arith) (omega arith) in
    omega (arith, k, c.requires)
