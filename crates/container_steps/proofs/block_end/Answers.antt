-- `container_steps::block_end` meets its contract: its fault, and the block that closes.
use Rattle.changes.specs.After.{Reached}
use Rattle.container_steps.proofs.BlockEnds as ends
use native.Mathlib.Omega.{arith}
use mathlib.Core.Path.{◌≡◌, refl}
use Rattle.std.specs.Prelude.{Err}
use Rattle.faults.proofs.Rules.{broken, kept}
use borrow.Author.Rules.{rules}
use Rattle.container_steps.proofs.block_end.Goals as goal

pub returns-in_err-closing_fault : goal.returns-in_err-closing_fault
returns-in_err-closing_fault c =
    let r : c.from_residual.result ≡ Err c.in_err-closing_fault.field-0.0 = search rules in
    (refl, refl, rw r (ends.block_end_refused _ _ c.args.p _ c.level_of.ensures _ c.closing_fault.ensures _ _ _ (broken c.in_err-closing_fault.was)))

pub close_block-builder-requires : goal.close_block-builder-requires
close_block-builder-requires c =
    ends.block_end_closes _ _ c.args.p _ c.level_of.ensures _ c.closing_fault.ensures c.requires (kept c.in_ok-closing_fault.was)

pub after-requires : goal.after-requires
unfolding Reached
after-requires c = tt

pub overflow_sub-p : goal.overflow_sub-p
overflow_sub-p c =
    let deep = ends.block_end_deep _ _ c.args.p _ c.level_of.ensures _ c.closing_fault.ensures c.requires (kept c.in_ok-closing_fault.was) in omega arith

pub returns : goal.returns
returns c =
    (search rules, search rules, ends.block_end_ends _ _ c.args.p _ c.level_of.ensures _ c.closing_fault.ensures c.requires (kept c.in_ok-closing_fault.was) _ _ _ c.close_block-builder.ensures c.after.ensures (rw (c.with_builder-built.ensures, c.with_graphics.ensures) at c.with_depth.ensures))
