-- `letters::lead` meets its contract: the rows far down in the table, and a byte of no row, which is below them or above them.
use Rattle.std.proofs.Common.{arith}
use Rattle.letters.proofs.Table.{last_rows}
use Rattle.letters.proofs.lead.Goals as goal

pub returns-in-241-to-243 : goal.returns-in-241-to-243
returns-in-241-to-243 c = grind (arith, last_rows)

pub returns-in_default : goal.returns-in_default
returns-in_default c = grind (arith, last_rows)
