-- `mending::text_end` meets its contract: what is left of the bytes between the two `%` is the text.
-- Assumes nothing.
use Prim.Native.Nat.{ℕ}
use mathlib.Core.Path.{ap, ◌∙◌}
use lib.Seq.{slice}
use Rattle.mending.proofs.Texts.{text_ends}
use Rattle.mending.proofs.text_end.Goals as goal

pub returns : goal.returns
returns c =
    let body = c.part-body.ensures ∙ ap (λ (n : ℕ). slice 1 n c.args.c.now) c.before_last.ensures in
    text_ends _ body c.trimmed.ensures.0 c.trimmed.ensures.1
