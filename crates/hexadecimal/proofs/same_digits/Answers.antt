-- `hexadecimal::same_digits` meets its contract: as many, and what `all` says of each pair.
use mathlib.Core.Path.{◌∙◌, sym}
use Rattle.std.proofs.Common.{rules}
use borrow.Author.Tests.{ne_eqb}
use Rattle.std.proofs.lemmas.Iterator.{YieldsList-from_slice, YieldsList-from_zip}
use Rattle.std.proofs.lemmas.Iterator.Search.{all_from_yields_List}
use Rattle.hexadecimal.proofs.Compared.{pair_same, same_pairs, same_lengths}
use Rattle.hexadecimal.proofs.same_digits.Goals as goal

pub returns-then-s-w : goal.returns-then-s-w
returns-then-s-w c =
    all_from_yields_List pair_same c.all.new.self _ _ c.all.ensures.ran (YieldsList-from_zip (YieldsList-from_slice c.args.s.now cc) (YieldsList-from_slice c.args.w.now cc)) (λ x b q k. search rules) ∙ same_pairs _ _ c.if-s-w.true

pub returns-else-s-w : goal.returns-else-s-w
returns-else-s-w c = ne_eqb _ _ c.if-s-w.false ∙ sym (same_lengths _ _ c.if-s-w.false)
