-- `lines::add_number` meets its contract: the digits that the kit spells are those of `decimal_of`.
use Prim.Native.Nat.{◌≤◌}
use Rattle.lines.proofs.Decimal.{few, spelled}
use mathlib.Core.Path.{◌∙◌}
use native.Mathlib.Omega.{arith}
use Rattle.lines.specs.Line.{decimal_of}
use Rattle.lines.proofs.Laws.{is_also}
use borrow.Author.Rules.{rules}
use Rattle.lines.proofs.add_number.Goals as goal

pub add-requires : goal.add-requires
add-requires c = let l : c.decimal-n.result ≤ 20 = few c.args.n _ (search rules) c.decimal-n.ensures.len in omega (arith, c.decimal-n.ensures.in_bounds.1)

pub returns : goal.returns
unfolding decimal_of
returns c =
    is_also (c.decimal-n.ensures.digits ∙ spelled c.decimal-n.result 20 c.args.n (few c.args.n _ (search rules) c.decimal-n.ensures.len) c.decimal-n.ensures.len) c.add.ensures
