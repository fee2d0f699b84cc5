-- `container_steps::block_start` meets its contract: its faults, and the block that opens.
use Rattle.changes.specs.After.{Reached}
use Rattle.container_steps.proofs.Blocks as blocks
use native.Mathlib.Omega.{arith}
use mathlib.Core.Path.{◌≡◌, refl}
use Rattle.std.specs.Prelude.{Err}
use Rattle.faults.proofs.Rules.{broken, kept}
use Rattle.command_rules.proofs.Taken.{taken_within, taken_outside}
use borrow.Author.Rules.{rules}
use Rattle.container_steps.proofs.block_start.Goals as goal

pub search_number-found-requires : goal.search_number-found-requires
search_number-found-requires c = blocks.lent_numbered _ _ _ c.requires

pub returns-in_err-region_fault : goal.returns-in_err-region_fault
returns-in_err-region_fault c =
    let r : c.from_residual.result ≡ Err c.in_err-region_fault.field-0.0 = search rules in
    (refl, refl, rw r (blocks.block_taken _ _ c.args.p c.args.place c.args.n c.requires _ c.has_room-room.ensures _ c.either-full.ensures _ c.level_of-level.ensures _ c.search_number-found.ensures _ _ _ c.in_default.is _ (taken_within c.args.p.graphics c.region_fault.ensures _ (broken c.in_err-region_fault.was))))

pub returns-in_default : goal.returns-in_default
returns-in_default c =
    (refl, refl, blocks.block_taken _ _ c.args.p c.args.place c.args.n c.requires _ c.has_room-room.ensures _ c.either-full.ensures _ c.level_of-level.ensures _ c.search_number-found.ensures _ _ _ c.in_default.is _ (taken_outside c.args.p.graphics c.region_fault.ensures (kept c.in_ok-region_fault.was)))

pub returns-in_err-block_start_fault : goal.returns-in_err-block_start_fault
returns-in_err-block_start_fault c =
    let r : c.from_residual-in_err-block_start_fault.result ≡ Err c.in_err-block_start_fault.field-0.0 = search rules in
    (refl, refl, rw r (blocks.block_refused _ _ c.args.p c.args.place c.args.n c.requires _ c.has_room-room.ensures _ c.either-full.ensures _ c.level_of-level.ensures _ c.search_number-found.ensures _ c.in-Err.is _ c.block_start_fault.ensures _ _ _ (broken c.in_err-block_start_fault.was)))

pub open_block-builder-requires : goal.open_block-builder-requires
open_block-builder-requires c =
    blocks.block_fits _ _ c.args.p c.args.place c.args.n c.requires _ c.has_room-room.ensures _ c.either-full.ensures _ c.level_of-level.ensures _ c.search_number-found.ensures _ c.in-Err.is _ c.block_start_fault.ensures (kept c.in_ok-block_start_fault.was)

pub after-requires : goal.after-requires
unfolding Reached
after-requires c = tt

pub overflow_add-used : goal.overflow_add-used
overflow_add-used c =
    let fits = blocks.record_fits _ _ c.args.p c.args.place c.args.n c.requires _ c.has_room-room.ensures _ c.either-full.ensures _ c.level_of-level.ensures _ c.search_number-found.ensures _ c.in-Err.is _ c.block_start_fault.ensures (kept c.in_ok-block_start_fault.was) in omega arith

pub overflow_add-p : goal.overflow_add-p
overflow_add-p c =
    let deep = blocks.block_deeper _ _ c.args.p c.args.place c.args.n c.requires _ c.has_room-room.ensures _ c.either-full.ensures _ c.level_of-level.ensures _ c.search_number-found.ensures _ c.in-Err.is _ c.block_start_fault.ensures (kept c.in_ok-block_start_fault.was) in omega arith

pub returns : goal.returns
returns c =
    (search rules, search rules, blocks.block_opens _ _ c.args.p c.args.place c.args.n c.requires _ c.has_room-room.ensures _ c.either-full.ensures _ c.level_of-level.ensures _ c.search_number-found.ensures _ c.in-Err.is _ c.block_start_fault.ensures (kept c.in_ok-block_start_fault.was) _ _ c.put_aperture.ensures.1 c.open_block-builder.ensures c.after.ensures (rw (c.with_depth.ensures, c.with_builder-built.ensures, c.with_graphics.ensures) at c.with_apertures.ensures))
