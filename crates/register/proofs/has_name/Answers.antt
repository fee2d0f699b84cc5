-- `register::has_name` meets its contract: the halves of the first word are where the name begins and ends, and `==` compares the bytes.
use mathlib.Core.Path.{◌≡◌, ◌∙◌}
use Rattle.base.specs.Bytes.{same_bytes}
use Rattle.base.proofs.Lists.{same_pointwise}
use Rattle.register.proofs.Wide.{name_is}
use Rattle.register.proofs.has_name.Goals as goal

pub returns : goal.returns
returns c =
    let same : c.eq.result ≡ same_bytes c.part.result.now c.part-2.result.now = c.eq.ensures ∙ same_pointwise _ _ in
    rw (c.part-2.ensures, c.part.ensures, c.lower.ensures, c.upper.ensures, c.word_at-name.ensures, name_is _ _ c.requires _) at same
