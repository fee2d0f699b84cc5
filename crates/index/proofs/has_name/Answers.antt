-- `index::has_name` meets its contract: the two parts that are compared are the record's name and the one asked for.
use mathlib.Core.Path.{◌∙◌}
use lib.Seq.{slice}
use Rattle.base.specs.Bytes.{same_bytes}
use Rattle.base.proofs.Lists.{same_pointwise}
use Rattle.index.specs.Names.{name_of}
use Rattle.index.proofs.has_name.Goals as goal

pub returns : goal.returns
unfolding name_of
returns c =
    let f = c.args.file.now in
    let n = c.part.ensures ∙ (λ i. slice (c.word_at-begins.ensures i) (c.word_at-ends.ensures i) f) in
    c.eq.ensures ∙ same_pointwise _ _ ∙ (λ i. same_bytes (n i) (c.part-2.ensures i))
