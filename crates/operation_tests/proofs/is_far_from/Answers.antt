-- `operation_tests::is_far_from` meets its contract: where neither the point nor x is far, y decides.
-- Assumes nothing.
use Rattle.operation_tests.proofs.Laws.{else_right}
use Rattle.operation_tests.specs.Far.{is_far}
use mathlib.Core.Path.{refl, sym, ◌∙◌}
use mir.Facts.{to_z-of_z}
use mir.Syntax.{w64}
use native.Mathlib.Omega.{arith}
use Rattle.operation_tests.proofs.is_far_from.Goals as goal

pub returns-else-is_long_along : goal.returns-else-is_long_along
unfolding is_far
returns-else-is_long_along c =
    let p = c.args.p in
    let x = to_z-of_z {w = w64} {z = p.x} (record { sfits = omega arith }) in
    let y = to_z-of_z {w = w64} {z = p.y} (record { sfits = omega arith }) in
    let near = sym c.is_far.ensures ∙ c.if-is_far.false in
    let across = rw x at (sym c.is_long_along.ensures ∙ c.if-is_long_along.false) in
    else_right (is_far p) _ _ near (else_right _ _ _ across (rw (c.is_long_along-else-is_long_along.ensures, y) refl))
