-- `digest::block` meets its contract: the constant array is `table`.
use Rattle.digest.specs.Table.{table}
use Rattle.digest.specs.Rounds.{block}
use Rattle.digest.proofs.block.Goals as goal

pub returns : goal.returns
unfolding block table
returns c = rw (c.add.ensures, c.rounds.ensures, c.words_of.ensures)
