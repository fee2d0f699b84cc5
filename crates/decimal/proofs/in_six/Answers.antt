-- `decimal::in_six` meets its contract: each part is below a million, so nothing wraps, and the parts are the definition's.
use Prim.Native.Nat.{◌*◌, ◌^◌, ◌<◌}
use Rattle.decimal.specs.Kept.{in_six}
use Rattle.decimal.proofs.Millionths.{whole_bound, fraction_bound}
use native.Mathlib.Omega.{arith}
use Rattle.decimal.proofs.in_six.Goals as goal

pub value-requires : goal.value-requires
value-requires c = (c.requires.whole_value.0, omega arith)

pub overflow_mul-result : goal.overflow_mul-result
overflow_mul-result c =
    let whole_below : c.value.result < 10 ^ 6 =
    let p = c.requires in
    rw c.value.ensures (whole_bound c.args.whole.now c.args.fraction.now p.whole_value.0 p.whole_value.1 p.fraction_value.0 p.fraction_value.1) in
    omega (arith, whole_below)

pub value-requires-2 : goal.value-requires-2
value-requires-2 c = (c.requires.fraction_value.0, omega arith)

pub overflow_mul-result-2 : goal.overflow_mul-result-2
overflow_mul-result-2 c =
    let fraction-below : c.value-2.result * c.pow.result < 10 ^ 6 =
    let p = c.requires in
    rw (c.value-2.ensures, c.pow.ensures) (fraction_bound c.args.whole.now c.args.fraction.now p.whole_value.0 p.whole_value.1 p.fraction_value.0 p.fraction_value.1) in
    omega (arith, fraction-below)

pub overflow_add-result : goal.overflow_add-result
overflow_add-result c =
    let whole_below : c.value.result < 10 ^ 6 =
    let p = c.requires in
    rw c.value.ensures (whole_bound c.args.whole.now c.args.fraction.now p.whole_value.0 p.whole_value.1 p.fraction_value.0 p.fraction_value.1) in
    let fraction-below : c.value-2.result * c.pow.result < 10 ^ 6 =
    let p = c.requires in
    rw (c.value-2.ensures, c.pow.ensures) (fraction_bound c.args.whole.now c.args.fraction.now p.whole_value.0 p.whole_value.1 p.fraction_value.0 p.fraction_value.1) in
    omega (arith, whole_below, fraction-below)

pub returns : goal.returns
unfolding in_six
returns c = cc
