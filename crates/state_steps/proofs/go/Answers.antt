-- `state_steps::go` meets its contract: by the fault that is found, or the point and the region after a D02.
use Rattle.state_steps.proofs.Sets.{move_refuses, move_goes_on}
use Rattle.operation_rules.proofs.Reached.{move_reached}
use Rattle.faults.proofs.Rules.{broken, kept}
use mathlib.Core.Path.{sym, ◌∙◌}
use Rattle.state_steps.proofs.go.Goals as goal

pub returns-in-Err : goal.returns-in-Err
returns-in-Err c = move_refuses _ _ _ _ c.move_fault.ensures _ (broken c.in-Err.is)

pub target-requires : goal.target-requires
target-requires c = move_reached _ _ _ (sym c.move_fault.ensures ∙ kept c.in_default.is)

pub returns : goal.returns
returns c =
    move_goes_on _ _ _ _ _ c.target.ensures c.ended.ensures (sym c.move_fault.ensures ∙ kept c.in_default.is)
