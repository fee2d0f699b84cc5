-- `macros::assignment` meets its contract: its two parts are those of `assignment_done`.
-- Assumes nothing.
use Rattle.faults.specs.Rule.{number_told, number_of_rule}
use Rattle.macro_tokens.specs.Tokens.{variable_number}
use Rattle.macros.proofs.Working.{assign_fine, assign_refused, assignment_is}
use lib.ListN.{drop}
use mathlib.Core.Path.{refl, sym, ap, ◌∙◌}
use Rattle.macros.proofs.assignment.Goals as goal

pub returns-in_default : goal.returns-in_default
unfolding number_told number_of_rule
returns-in_default c =
    let a = c.args in
    let n = c.variable_number-n in
    rw (sym (assignment_is a.v.values a.t.now n.result _ (n.ensures ∙ ap variable_number (c.from_on.ensures ∙ ap (drop 1) c.before-2.ensures)) c.after.ensures))
    (assign_refused a.v.values n.result.value _ c.worth_of.result _ _ _ c.worth_of.ensures c.requires refl c.in_default.is refl refl)

pub returns : goal.returns
unfolding number_told
returns c =
    let a = c.args in
    let n = c.variable_number-n in
    rw (sym (assignment_is a.v.values a.t.now n.result _ (n.ensures ∙ ap variable_number (c.from_on.ensures ∙ ap (drop 1) c.before-2.ensures)) c.after.ensures))
    (assign_fine a.v.values n.result.value _ c.worth_of.result _ _ _ c.worth_of.ensures c.requires refl _ c.in-Some.is refl c.assigned.ensures)
