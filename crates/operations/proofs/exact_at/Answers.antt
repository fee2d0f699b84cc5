-- `operations::exact_at` meets its contract: as `field_at`, with what was read by its digits.
-- Assumes nothing.
use Prim.Native.Nat.{◌<◌}
use mathlib.Core.Path.{sym, ap, ◌∙◌}
use lib.ListN.{length}
use native.Mathlib.Omega.{arith}
use Rattle.base.proofs.Tests.{tests}
use Rattle.digits.specs.Coordinate.{coordinate_at}
use Rattle.formats.proofs.Exact.{exact_taken}
use Rattle.operations.specs.Coordinates.{field_at}
use Rattle.operations.proofs.Ends.{inside}
use Rattle.operations.proofs.exact_at.Goals as goal

pub overflow_add-at : goal.overflow_add-at
overflow_add-at c =
    let stands : c.args.at < length c.args.s.now =
    inside c.args.s.now c.args.at (omega (arith, c.byte_at.ensures)) in
    omega (arith, stands)

pub coordinate_at-taken-requires : goal.coordinate_at-taken-requires
coordinate_at-taken-requires c =
    let stands : c.args.at < length c.args.s.now =
    inside c.args.s.now c.args.at (omega (arith, c.byte_at.ensures)) in
    (omega (arith, stands), c.requires.2)

pub overflow_add-at-then-byte_at-letter : goal.overflow_add-at-then-byte_at-letter
overflow_add-at-then-byte_at-letter c =
    let stands : c.args.at < length c.args.s.now =
    inside c.args.s.now c.args.at (omega (arith, c.byte_at.ensures)) in
    omega (arith, stands)

pub returns-then-byte_at-letter : goal.returns-then-byte_at-letter
unfolding field_at
returns-then-byte_at-letter c f q =
    let e = sym c.byte_at.ensures in
    let h = c.if-byte_at-letter.true in
    let some = c.requires.1 in
    let t = c.coordinate_at-taken.ensures ∙ ap (coordinate_at _ _) q ∙ exact_taken f _ _ (λ z. omega (arith, some, q, z)) in
    simp (tests, e) (cc)

pub returns : goal.returns
unfolding field_at
returns c f q =
    let e = sym c.byte_at.ensures in
    let m = sym c.missing.ensures in
    let h = c.if-byte_at-letter.false in
    simp (tests, e, m)
