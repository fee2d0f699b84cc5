use Rattle.std.proofs.Common.{drop_of_length-le}
use Rattle.base.proofs.Lists.{drop_next}
use Rattle.intake.specs.Runs.{taken}
use Rattle.intake.proofs.take.Goals as goal

pub loop-b-preserved : goal.loop-b-preserved
unfolding taken
loop-b-preserved c =
    let l = c.loop-b in
    rw c.push-v.ensures (rw (drop_next _ l.b-index c.loop-b-test.true) at l.invariant)

pub returns : goal.returns
unfolding taken
returns c = rw (drop_of_length-le _ c.loop-b-test.false) at c.loop-b.invariant
