-- `running::judge_name` meets its contract: how many names are set, where it stands and what was looked for pick the case.
-- Assumes nothing.
use mathlib.Core.Path.{sym, ap, ◌∙◌}
use Rattle.running.specs.Judged.{by_look}
use Rattle.running.proofs.Judging.{judged_first, judged_walk, judged_look}
use Rattle.running.proofs.judge_name.Goals as goal

pub returns-then-set-eq0 : goal.returns-then-set-eq0
returns-then-set-eq0 c = judged_first _ _ _ _ _ _ c.if-set-eq0.true

pub returns-then-either : goal.returns-then-either
returns-then-either c = judged_walk _ _ _ _ _ _ c.if-set-eq0.false (sym c.either.ensures ∙ c.if-either.true) c.first_at.ensures

pub returns-in-None : goal.returns-in-None
unfolding by_look
returns-in-None c =
    sym (ap (by_look _ _) c.in-None.is)
    ∙ judged_look _ _ _ _ _ _ c.if-set-eq0.false (sym c.either.ensures ∙ c.if-either.false)

pub returns-in-Some : goal.returns-in-Some
unfolding by_look
returns-in-Some c =
    sym (ap (by_look _ _) c.in-Some.is) ∙ judged_look _ _ _ _ _ _ c.if-set-eq0.false (sym c.either.ensures ∙ c.if-either.false)
