-- `state_steps::set` meets its contract: by the fault that is found, or the graphics state after the command.
use Rattle.std.specs.Prelude.{Err}
use mathlib.Core.Path.{◌≡◌, sym, ◌∙◌}
use borrow.Author.Rules.{rules}
use Rattle.faults.proofs.Rules.{broken, kept}
use Rattle.state_steps.proofs.Sets.{set_refuses, set_goes_on}
use Rattle.state_steps.proofs.Keeps.{state_reached}
use Rattle.state_steps.proofs.set.Goals as goal

pub returns-in_err-fault_of : goal.returns-in_err-fault_of
returns-in_err-fault_of c = λ text place.
    let r : c.from_residual.result ≡ Err c.in_err-fault_of.field-0.0 = search rules in
    rw r (set_refuses c.args.p c.args.c text place c.requires _ c.level_of.ensures _ c.fault_of.ensures _ (broken c.in_err-fault_of.was))

pub after-requires : goal.after-requires
after-requires c =
    state_reached _ _ c.args.c c.requires (sym c.fault_of.ensures ∙ kept c.in_ok-fault_of.was)

pub returns : goal.returns
returns c =
    λ text place. set_goes_on c.args.p c.args.c text place c.requires _ c.level_of.ensures _ c.after.ensures
    (sym c.fault_of.ensures ∙ kept c.in_ok-fault_of.was) _ c.with_graphics.ensures
