-- `summary_by_aperture::low_word` meets its contract: the word of that end.
use Rattle.ints.proofs.Bounded.{in_bits}
use native.Mathlib.Omega.{arith}
use mathlib.Core.Path.{ap, ◌∙◌}
use mir.Syntax.{w64}
use mir.Val.{of_z}
use Rattle.summary_by_aperture.proofs.low_word.Goals as goal

pub returns : goal.returns
returns c = c.word.ensures ∙ ap (of_z w64) (in_bits c.args.s.low (omega arith))
