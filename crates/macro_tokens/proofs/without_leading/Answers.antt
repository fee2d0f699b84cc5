-- `macro_tokens::without_leading` meets its contract: what is left begins at the first place that holds no line end.
-- Assumes nothing.
use mathlib.Core.Path.{sym, ◌∙◌}
use Rattle.base.specs.Breaks.{is_break}
use Rattle.text.proofs.First.{leading_first}
use Rattle.macro_tokens.proofs.without_leading.Goals as goal

pub returns : goal.returns
returns c = rw c.past_breaks.ensures at c.from_on.ensures ∙ sym (leading_first is_break _)
