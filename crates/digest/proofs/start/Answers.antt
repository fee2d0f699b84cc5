-- `digest::start` meets its contract: the struct is `started`, written out.
use Rattle.digest.specs.Md5.{initial}
use Rattle.digest.specs.Runs.{empty, started}
use Rattle.digest.proofs.start.Goals as goal

pub returns : goal.returns
unfolding started initial empty
returns c = rw c.four.ensures
