-- `register::led` meets its contract: the half of the second word.
use Rattle.register.proofs.Wide.{led_high, led_low}
use mathlib.Core.Path.{◌∙◌}
use Rattle.register.proofs.led.Goals as goal

pub returns-then-high : goal.returns-then-high
returns-then-high c = rw c.if-high.true (rw c.word_at-links.ensures at c.lower.ensures ∙ led_high _ _ c.requires)

pub returns : goal.returns
returns c = rw c.if-high.false (rw c.word_at-links.ensures at c.upper.ensures ∙ led_low _ _ c.requires)
