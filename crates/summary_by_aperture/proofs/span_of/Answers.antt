-- `summary_by_aperture::span_of` meets its contract: each word is read back as the signed number that it holds.
use Rattle.ints.proofs.Bounded.{in_bits}
use Rattle.spans.specs.Spans.{span}
use Rattle.summary_by_aperture.specs.Kept.{span_of}
use mathlib.Core.Path.{◌∙◌}
use Rattle.summary_by_aperture.proofs.span_of.Goals as goal

pub returns : goal.returns
unfolding span_of
returns c = let x = c.from_word in let y = c.from_word-2 in
    λ i. span ((in_bits x.result x.type_inv ∙ x.ensures) i) ((in_bits y.result y.type_inv ∙ y.ensures) i)
