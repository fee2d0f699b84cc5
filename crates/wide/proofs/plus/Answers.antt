-- `wide::plus` meets its contract: what the low words carry goes to the high ones, and sizes below 2 ^ 100 leave room there.
use Prim.Native.Nat.{◌<◌, ◌^◌}
use native.Mathlib.Omega.{arith}
use Rattle.product.specs.Wide.{number}
use Rattle.wide.proofs.Words.{first_small, carried}
use Rattle.wide.proofs.plus.Goals as goal

pub overflow_add-result : goal.overflow_add-result
unfolding number
overflow_add-result c =
    let a : c.args.a.hi < 2 ^ 36 = first_small (2 ^ 64) (2 ^ 36) _ c.args.a.lo c.requires.a_bound in
    let b : c.args.b.hi < 2 ^ 36 = first_small (2 ^ 64) (2 ^ 36) _ c.args.b.lo c.requires.b_bound in
    record { fits = omega arith }

pub overflow_add-result-2 : goal.overflow_add-result-2
unfolding number
overflow_add-result-2 c =
    let a : c.args.a.hi < 2 ^ 36 = first_small (2 ^ 64) (2 ^ 36) _ c.args.a.lo c.requires.a_bound in
    let b : c.args.b.hi < 2 ^ 36 = first_small (2 ^ 64) (2 ^ 36) _ c.args.b.lo c.requires.b_bound in
    let o = c.overflowing_add-lo in
    let k = carried o.result.1 o.ensures.overflow c.from.ensures (omega arith) in
    record { fits = omega (arith, k) }

pub returns : goal.returns
unfolding number
returns c =
    let o = c.overflowing_add-lo in
    let k = carried o.result.1 o.ensures.overflow c.from.ensures (omega arith) in
    omega (arith, k, o.ensures.value)
