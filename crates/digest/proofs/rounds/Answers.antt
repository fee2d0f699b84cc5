-- `digest::rounds` meets its contract: sixteen rows, each on the words that the one before it leaves.
use Rattle.digest.proofs.rounds.Goals as goal

pub returns : goal.returns
returns c =
    rw (
      c.operate_row-v-16.ensures,
      c.operate_row-v-15.ensures,
      c.operate_row-v-14.ensures,
      c.operate_row-v-13.ensures,
      c.operate_row-v-12.ensures,
      c.operate_row-v-11.ensures,
      c.operate_row-v-10.ensures,
      c.operate_row-v-9.ensures,
      c.operate_row-v-8.ensures,
      c.operate_row-v-7.ensures,
      c.operate_row-v-6.ensures,
      c.operate_row-v-5.ensures,
      c.operate_row-v-4.ensures,
      c.operate_row-v-3.ensures,
      c.operate_row-v-2.ensures,
      c.operate_row-v.ensures,
    )
