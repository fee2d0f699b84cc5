-- `container_steps::repeat_end` meets its contract: its fault, and the repeat that closes.
use Rattle.changes.specs.After.{Reached}
use Rattle.container_steps.proofs.RepeatEnds as ends
use native.Mathlib.Omega.{arith}
use mathlib.Core.Path.{◌≡◌, refl}
use Rattle.std.specs.Prelude.{Err}
use Rattle.faults.proofs.Rules.{broken, kept}
use borrow.Author.Rules.{rules}
use Rattle.container_steps.proofs.repeat_end.Goals as goal

pub returns-in_err-closing_fault : goal.returns-in_err-closing_fault
returns-in_err-closing_fault c =
    let r : c.from_residual.result ≡ Err c.in_err-closing_fault.field-0.0 = search rules in
    (refl, rw r (ends.repeat_end_refused _ c.args.p _ c.level_of.ensures _ c.closing_fault.ensures _ _ (broken c.in_err-closing_fault.was)))

pub close_repeat-builder-requires : goal.close_repeat-builder-requires
close_repeat-builder-requires c =
    ends.repeat_end_closes _ c.args.p _ c.level_of.ensures _ c.closing_fault.ensures c.requires (kept c.in_ok-closing_fault.was)

pub after-requires : goal.after-requires
unfolding Reached
after-requires c = tt

pub returns : goal.returns
returns c =
    (search rules, ends.repeat_end_ends _ c.args.p _ c.level_of.ensures _ c.closing_fault.ensures c.requires (kept c.in_ok-closing_fault.was) _ _ c.close_repeat-builder.ensures c.after.ensures (rw (c.with_builder-built.ensures, c.with_graphics.ensures) at c.with_repeat.ensures))
