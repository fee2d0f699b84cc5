-- `build::push` meets its contract: the record below the stack's last is stored.
use Rattle.build.specs.Stack.{pushed}
use Rattle.build.proofs.Turning.{next_down}
use Rattle.build.proofs.push.Goals as goal

pub returns : goal.returns
unfolding pushed
returns c = rw next_down at c.put_entry.ensures
