-- `host::sheet_summary` meets its contract: it is the call's, with its outcome as a number.
use mathlib.Core.Path.{ap, ◌∙◌}
use Rattle.summary_by_aperture.specs.Answers.{outcome_number}
use Rattle.host.proofs.sheet_summary.Goals as goal

pub returns : goal.returns
returns c =
    let call = c.summary-r.ensures in
    (c.summary_number.ensures ∙ ap outcome_number call.0, call.1)
