-- `digits::value` meets its contract: of a text that is digits alone, all are read.
-- Assumes nothing.
use Rattle.std.proofs.Common.{ap, ◌∙◌}
use Rattle.digits.proofs.Past.{value_whole}
use Rattle.digits.proofs.value.Goals as goal

pub returns : goal.returns
returns c = ap (λ d. d.value) c.digits_in.ensures ∙ value_whole _ c.requires.0
