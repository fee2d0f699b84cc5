-- `base::between` meets its contract: a range that is not used up holds what its two comparisons say.
use mathlib.Core.Path.{◌∙◌}
use mathlib.Core.Bool.{◌&&◌}
use lib.Dec.{leb}
use Rattle.std.proofs.Common.{◌≡◌, arith}
use Rattle.base.proofs.And.{and_is}
use Rattle.std.proofs.lemmas.Bool.Decides.{nat_tests}
use Rattle.base.proofs.between.Goals as goal

pub returns : goal.returns
returns c =
    let n = c.new.ensures in
    let v = rw (n.start, n.end, n.exhausted) at c.contains.ensures.value in
    let e : c.contains.result ≡ (leb c.args.low c.args.b && leb c.args.b c.args.high) = grind (arith, nat_tests, v) in
    e ∙ and_is _ _
