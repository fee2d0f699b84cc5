-- `text::are_name_bytes` meets its contract: what `all` says of each byte.
use mathlib.Core.Path.{◌∙◌}
use Rattle.std.proofs.Common.{rules}
use Rattle.std.proofs.lemmas.Iterator.{YieldsList-from_slice}
use Rattle.std.proofs.lemmas.Iterator.Search.{all_from_yields_List}
use Rattle.text.specs.Name.{name_byte}
use Rattle.text.proofs.Name.{name_bytes_all}
use Rattle.text.proofs.are_name_bytes.Goals as goal

pub returns : goal.returns
returns c =
    all_from_yields_List name_byte _ _ _ c.all.ensures.ran (YieldsList-from_slice c.args.s.now cc) (λ x b q k. search rules) ∙ name_bytes_all c.args.s.now
