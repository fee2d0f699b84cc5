-- `operations::field_at` meets its contract: the byte at the place says whether the field is there, and what stands after it what it is.
-- Assumes nothing.
use Prim.Native.Nat.{◌<◌}
use mathlib.Core.Path.{sym}
use lib.ListN.{length}
use native.Mathlib.Omega.{arith}
use Rattle.base.proofs.Tests.{tests}
use Rattle.operations.specs.Coordinates.{field_at}
use Rattle.operations.proofs.Ends.{inside}
use Rattle.operations.proofs.field_at.Goals as goal

pub overflow_add-at : goal.overflow_add-at
overflow_add-at c =
    let stands : c.args.at < length c.args.s.now =
    inside c.args.s.now c.args.at (omega (arith, c.byte_at.ensures)) in
    omega (arith, stands)

pub coordinate_in-taken-requires : goal.coordinate_in-taken-requires
coordinate_in-taken-requires c =
    let stands : c.args.at < length c.args.s.now =
    inside c.args.s.now c.args.at (omega (arith, c.byte_at.ensures)) in
    omega (arith, stands)

pub overflow_add-at-then-byte_at-letter : goal.overflow_add-at-then-byte_at-letter
overflow_add-at-then-byte_at-letter c =
    let stands : c.args.at < length c.args.s.now =
    inside c.args.s.now c.args.at (omega (arith, c.byte_at.ensures)) in
    omega (arith, stands)

pub returns-then-byte_at-letter : goal.returns-then-byte_at-letter
unfolding field_at
returns-then-byte_at-letter c =
    let e = sym c.byte_at.ensures in
    let h = c.if-byte_at-letter.true in
    simp (tests, e) (cc)

pub returns : goal.returns
unfolding field_at
returns c =
    let e = sym c.byte_at.ensures in
    let m = sym c.missing.ensures in
    let h = c.if-byte_at-letter.false in
    simp (tests, e, m)
