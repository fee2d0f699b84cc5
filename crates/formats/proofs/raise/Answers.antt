-- `formats::raise` meets its contract: case by case; a value that fits is raised by a power of ten.
-- Assumes nothing.
use Rattle.std.specs.Prelude.{Ok}
use Prim.Native.Nat.{◌*◌, ◌^◌, ◌<◌}
use mathlib.Core.Path.{◌≡◌, ap, ◌∙◌}
use lib.IntN.{nat_abs}
use native.Mathlib.Omega.{arith}
use Rattle.ints.specs.Ints.{signed}
use Rattle.ints.proofs.Bounded.{in_bits, back}
use Rattle.formats.specs.Raised.{raised}
use Rattle.formats.proofs.raise.Goals as goal

pub overflow_mul-size : goal.overflow_mul-size
overflow_mul-size c =
    let product : c.size.result * c.pow.result ≡ nat_abs c.in_ok-z.z * 10 ^ c.args.zeros =
    rw (c.size.ensures, c.pow.ensures, in_bits c.in_ok-z.z (omega arith)) in
    let small : c.size.result * c.pow.result < 10 ^ 12 =
    rw product (c.requires.zeros_bound_2 c.in_ok-z.z c.in_ok-z.was) in
    omega (arith, small)

pub with_sign-requires : goal.with_sign-requires
with_sign-requires c =
    let product : c.size.result * c.pow.result ≡ nat_abs c.in_ok-z.z * 10 ^ c.args.zeros =
    rw (c.size.ensures, c.pow.ensures, in_bits c.in_ok-z.z (omega arith)) in
    let small : c.size.result * c.pow.result < 10 ^ 12 =
    rw product (c.requires.zeros_bound_2 c.in_ok-z.z c.in_ok-z.was) in
    omega (arith, small)

pub returns : goal.returns
unfolding raised
returns c =
    let product : c.size.result * c.pow.result ≡ nat_abs c.in_ok-z.z * 10 ^ c.args.zeros =
    rw (c.size.ensures, c.pow.ensures, in_bits c.in_ok-z.z (omega arith)) in
    let small : c.size.result * c.pow.result < 10 ^ 12 =
    rw product (c.requires.zeros_bound_2 c.in_ok-z.z c.in_ok-z.was) in
    let h = small in
    rw c.in_ok-z.was
    (ap Ok (back _ (omega (arith, h, c.with_sign.ensures.1)) ∙ c.with_sign.ensures.0 ∙ ap (signed c.args.minus) product))
