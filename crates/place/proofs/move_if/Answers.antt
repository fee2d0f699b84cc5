-- `place::move_if` meets its contract: `points::place` moves the point as `moved` does, by fewer than four quarter turns.
use Rattle.place.specs.Placing.{moved, moved_if}
use Rattle.place.proofs.move_if.Goals as goal

pub returns-then-used : goal.returns-then-used
unfolding moved_if moved
returns-then-used c = rw c.if-used.true c.place.ensures

pub returns-else-used : goal.returns-else-used
unfolding moved_if
returns-else-used c = rw c.if-used.false
