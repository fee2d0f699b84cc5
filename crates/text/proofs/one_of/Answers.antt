-- `text::one_of` meets its contract: the library's `contains`.
use mathlib.Core.Path.{◌∙◌}
use Rattle.text.proofs.Among.{among_any}
use Rattle.text.proofs.one_of.Goals as goal

pub returns : goal.returns
returns c = c.contains.ensures.value ∙ among_any c.args.w.now c.args.b
