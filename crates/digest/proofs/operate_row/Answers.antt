-- `digest::operate_row` meets its contract: the four operations, each on the words in its own order.
use Rattle.digest.specs.Rounds.{row}
use Rattle.digest.proofs.operate_row.Goals as goal

pub returns : goal.returns
unfolding row
returns c =
    rw (
      c.four-4.ensures,
      c.operate-b.ensures,
      c.four-3.ensures,
      c.operate-c.ensures,
      c.four-2.ensures,
      c.operate-d.ensures,
      c.four.ensures,
      c.operate-a.ensures,
    )
