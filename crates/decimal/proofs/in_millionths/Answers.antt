-- `decimal::in_millionths` meets its contract: six digits after the point, and what the seventh adds, make the rounded size.
use Prim.Native.Nat.{◌+◌, ◌^◌, ◌≤◌}
use mathlib.Core.Path.{◌≡◌, ap, ◌∙◌}
use native.Mathlib.Omega.{arith}
use lib.ListN.{take, length-take}
use Rattle.decimal.specs.Kept.{in_six}
use Rattle.decimal.proofs.Millionths.{six_bound}
use Rattle.decimal.proofs.Rounding.{digits_take, carry_one, rounds}
use Rattle.decimal.proofs.in_millionths.Goals as goal

pub in_six-requires : goal.in_six-requires
in_six-requires c =
    let p = c.requires in
    record {
      whole_value = p.whole_value;
      fraction_value = rw c.up_to.ensures (digits_take 6 _ p.fraction_value, omega (arith, length-take 6 c.args.fraction.now));
    }

pub overflow_add-result : goal.overflow_add-result
overflow_add-result c =
    let below : c.in_six.result + c.carry.result ≤ 10 ^ 12 =
    let p = c.requires in
    let w = c.args.whole.now in
    let f = c.args.fraction.now in
    let six : c.in_six.result ≡ in_six w (take 6 f) = c.in_six.ensures ∙ ap (in_six w) c.up_to.ensures in
    omega (arith, six, c.carry.ensures, carry_one f, six_bound w (take 6 f) p.whole_value.0 p.whole_value.1 (digits_take 6 f p.fraction_value) (omega (arith, length-take 6 f))) in
    omega (arith, below)

pub returns : goal.returns
returns c = rw (c.carry.ensures, c.in_six.ensures, c.up_to.ensures) (rounds _ _ c.requires.fraction_value)
