-- `list_writing::write_point` meets its contract: two numbers, each after a tab.
-- Assumes nothing.
use mathlib.Core.Path.{ap}
use native.Mathlib.Omega.{arith}
use Rattle.ints.proofs.Bounded.{in_bits}
use Rattle.law_components.specs.Records.{numeral, point_text}
use Rattle.law_components.proofs.Written.{behind, is_also}
use Rattle.list_writing.proofs.write_point.Goals as goal

pub returns : goal.returns
unfolding point_text
returns c =
    let a = c.args in
    let x = is_also (ap numeral (in_bits a.p.x (omega arith))) c.write_number-b.ensures in
    let y = is_also (ap numeral (in_bits a.p.y (omega arith))) c.write_number.ensures in
    behind c.write-a.ensures (behind x (behind c.write-c.ensures y))
