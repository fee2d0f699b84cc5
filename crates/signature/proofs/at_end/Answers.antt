-- `signature::at_end` meets its contract: what follows M02 picks the case of `at_end`.
use mathlib.Core.Path.{sym, ◌∙◌}
use Rattle.signature.proofs.Judged.{end_clean, end_more, end_bad}
use Rattle.signature.proofs.at_end.Goals as goal

pub returns-in-Clean : goal.returns-in-Clean
returns-in-Clean c = c.judge_part.ensures ∙ sym (end_clean _ _ _ _ _ (sym c.tail_from-tail.ensures ∙ c.in-Clean.is))

pub returns-in-More : goal.returns-in-More
returns-in-More c = c.judge_part-in-More.ensures ∙ sym (end_more _ _ _ _ _ (sym c.tail_from-tail.ensures ∙ c.in-More.is))

pub returns-in-Unprintable : goal.returns-in-Unprintable
returns-in-Unprintable c = c.refuse.ensures ∙ sym (end_bad _ _ _ _ _ (sym c.tail_from-tail.ensures ∙ c.in-Unprintable.is))
