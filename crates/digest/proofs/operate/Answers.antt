-- `digest::operate` meets its contract: its five sums and its rotation are those of `operation`, and each amount turns by 1 to 31 places.
use Rattle.digest.specs.Rounds.{operation}
use Rattle.digest.proofs.Amounts.{amount_turns}
use Rattle.digest.proofs.operate.Goals as goal

pub rotate-requires : goal.rotate-requires
rotate-requires c = rw c.amount_of.ensures (amount_turns _ _)

pub returns : goal.returns
unfolding operation
returns c = cc
