-- `container_steps::repeat_start` meets its contract: its faults, and the repeat that opens.
use Rattle.changes.specs.After.{Reached}
use Rattle.container_steps.proofs.Repeats as repeats
use native.Mathlib.Omega.{arith}
use mathlib.Core.Path.{◌≡◌, refl}
use Rattle.std.specs.Prelude.{Err}
use Rattle.faults.proofs.Rules.{broken, kept}
use borrow.Author.Rules.{rules}
use Rattle.container_steps.proofs.repeat_start.Goals as goal

pub returns-in_err-repeat_start_fault : goal.returns-in_err-repeat_start_fault
returns-in_err-repeat_start_fault c =
    let r : c.from_residual.result ≡ Err c.in_err-repeat_start_fault.field-0.0 = search rules in
    (refl, rw r (repeats.repeat_refused _ c.args.p c.args.place _ _ _ _ c.requires.repeats _ c.has_room-full.ensures _ c.level_of.ensures _ c.is_repeat.ensures _ c.repeat_start_fault.ensures _ _ (broken c.in_err-repeat_start_fault.was)))

pub open_repeat-builder-requires : goal.open_repeat-builder-requires
open_repeat-builder-requires c =
    repeats.repeat_fits _ c.args.p c.args.place _ _ _ _ c.requires.repeats _ c.has_room-full.ensures _ c.level_of.ensures _ c.is_repeat.ensures _ c.repeat_start_fault.ensures c.requires.known (kept c.in_ok-repeat_start_fault.was)

pub after-requires : goal.after-requires
unfolding Reached
after-requires c = tt

pub overflow_mul-nx : goal.overflow_mul-nx
overflow_mul-nx c =
    let few = repeats.repeat_few _ c.args.p c.args.place _ _ _ _ c.requires.repeats _ c.has_room-full.ensures _ c.level_of.ensures _ c.is_repeat.ensures _ c.repeat_start_fault.ensures c.requires.known (kept c.in_ok-repeat_start_fault.was) in omega arith

pub returns : goal.returns
returns c =
    (search rules, repeats.repeat_opens _ c.args.p c.args.place _ _ _ _ c.requires.repeats _ c.has_room-full.ensures _ c.level_of.ensures _ c.is_repeat.ensures _ c.repeat_start_fault.ensures c.requires.known (kept c.in_ok-repeat_start_fault.was) _ c.repeat_of.ensures c.open_repeat-builder.ensures c.after.ensures (rw (c.with_builder-built.ensures, c.with_graphics.ensures) at c.with_repeat.ensures))
