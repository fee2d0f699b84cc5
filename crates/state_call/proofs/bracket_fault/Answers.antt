-- `state_call::bracket_fault` meets its contract, case by case.
-- Assumes nothing.
use mathlib.Core.Path.{sym, ap, ◌∙◌}
use lib.Dec.{eqb}
use Rattle.command_rules.specs.Rules.{block_start_fault, repeat_start_fault}
use Rattle.state_call.specs.Stepped.{bracket_fault}
use Rattle.state_call.proofs.bracket_fault.Goals as goal

pub returns-in-BlockStart : goal.returns-in-BlockStart
unfolding bracket_fault
returns-in-BlockStart c = let a = c.args in c.block_start_fault.ensures ∙ (λ i. block_start_fault a.g a.l a.k.taken (c.either.ensures i)) ∙ sym (ap (λ b. bracket_fault a.g a.l b a.k) c.in-BlockStart.is)

pub returns-in-BlockEnd : goal.returns-in-BlockEnd
unfolding bracket_fault
returns-in-BlockEnd c = let a = c.args in c.closing_fault.ensures ∙ sym (ap (λ b. bracket_fault a.g a.l b a.k) c.in-BlockEnd.is)

pub returns-in-RepeatStart : goal.returns-in-RepeatStart
unfolding bracket_fault
returns-in-RepeatStart c =
    let a = c.args in c.repeat_start_fault.ensures ∙ (λ i. repeat_start_fault a.g a.l (c.is_repeat.ensures i) (eqb a.k.entries 0)) ∙ sym (ap (λ b. bracket_fault a.g a.l b a.k) c.in-RepeatStart.is)

pub returns-in-RepeatEnd : goal.returns-in-RepeatEnd
unfolding bracket_fault
returns-in-RepeatEnd c = let a = c.args in c.closing_fault-in-RepeatEnd.ensures ∙ sym (ap (λ b. bracket_fault a.g a.l b a.k) c.in-RepeatEnd.is)
