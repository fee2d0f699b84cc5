use Rattle.std.proofs.Common.{◌∙◌, arith}
use Rattle.digest.proofs.Runs.{blocks_next, blocks_none}
use Rattle.digest.proofs.feed_blocks.Goals as goal

pub loop-x-preserved : goal.loop-x-preserved
loop-x-preserved c =
    let parts = c.in-Some.ensures.cases in
    rw c.block-v.ensures (blocks_next c.loop-x.left.now c.loop-x.v (omega arith) parts.0 parts.1 ∙ c.loop-x.invariant)

pub returns : goal.returns
returns c = blocks_none c.loop-x.left.now c.loop-x.v c.in_default.ensures.cases ∙ c.loop-x.invariant
