-- `state_call::definition_fault` meets its contract: of an AD by the outcome of its parameters, of an AM by its own.
-- Assumes nothing.
use mathlib.Core.Path.{sym, ap, ◌∙◌}
use Rattle.command_rules.specs.Rules.{aperture_fault}
use Rattle.state_call.specs.Stepped.{definition_fault}
use Rattle.state_call.proofs.definition_fault.Goals as goal

pub returns-in-Aperture : goal.returns-in-Aperture
unfolding definition_fault
returns-in-Aperture c = let a = c.args in c.aperture_fault.ensures ∙ (λ i. aperture_fault a.g (c.either.ensures i) (c.rule_of.ensures i) a.k.full) ∙ sym (ap (λ d. definition_fault a.g d a.k) c.in-Aperture.is)

pub returns-in-Macro : goal.returns-in-Macro
unfolding definition_fault
returns-in-Macro c = let a = c.args in c.macro_fault.ensures ∙ sym (ap (λ d. definition_fault a.g d a.k) c.in-Macro.is)
