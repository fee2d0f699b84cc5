-- `scan::to_command` meets its contract: its text begins at its place or after it, so inside the numbers of the machine.
-- Assumes nothing.
use native.Mathlib.Omega.{arith}
use Rattle.scan.proofs.Printable.{text_near}
use Rattle.scan.proofs.to_command.Goals as goal

pub text_from-from-requires : goal.text_from-from-requires
text_from-from-requires c = omega (arith, (text_near c.args.kind c.args.place).1, c.requires.0, c.requires.1)
