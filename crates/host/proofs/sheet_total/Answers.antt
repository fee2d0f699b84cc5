-- `host::sheet_total` meets its contract.
use mathlib.Core.Path.{sym, ◌∙◌}
use Rattle.descend.specs.Answers.{total_number, total_value}
use Rattle.host.proofs.sheet_total.Goals as goal

pub returns-in-Some : goal.returns-in-Some
unfolding total_number total_value
returns-in-Some c =
    let k = sym c.sheet_total-t.ensures ∙ c.in-Some.is in
    (rw k, rw k)

pub returns-in-None : goal.returns-in-None
unfolding total_number total_value
returns-in-None c =
    let k = sym c.sheet_total-t.ensures ∙ c.in-None.is in
    (rw k, rw k)
