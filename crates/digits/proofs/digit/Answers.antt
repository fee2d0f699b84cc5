-- `digits::digit` meets its contract: a byte without 48, as a word that wraps, is below 10 where the byte is a digit.
-- Assumes nothing.
use Rattle.std.proofs.Common.{arith}
use Rattle.digits.proofs.Strings.{wraps}
use Rattle.digits.proofs.digit.Goals as goal

pub returns : goal.returns
returns c = wraps _ _ (omega arith) (omega (arith, c.from.ensures))
