-- `signature::is_last` meets its contract: what is held of the command tells whether it is M02 (`end_held`).
use Rattle.signature.specs.Signature.{bare}
use Rattle.signature.proofs.Short.{end_held}
use Rattle.signature.proofs.is_last.Goals as goal

pub returns : goal.returns
unfolding bare
returns c = rw (c.holds_end.ensures, c.hold.ensures, c.part.ensures, c.none.ensures) (end_held _ _)
