-- `running::judge` meets its contract: what the command sets picks the case.
-- Assumes nothing.
use mathlib.Core.Path.{sym, ◌∙◌}
use Rattle.running.proofs.Judging.{judged_none, judged_named}
use Rattle.running.proofs.judge.Goals as goal

pub returns-in-None : goal.returns-in-None
returns-in-None c = judged_none _ _ c.args.c _ _ (sym c.sets_of-sets.ensures ∙ c.in-None.is)

pub returns-in-Some : goal.returns-in-Some
returns-in-Some c =
    rw (c.part.ensures, c.part-text.ensures) at c.judge_name.ensures
    ∙ judged_named _ _ c.args.c _ _ (sym c.sets_of-sets.ensures ∙ c.in-Some.is)
