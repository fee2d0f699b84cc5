-- `digest::digest` meets its contract: a message in one piece is one run (`finished_md5`).
use Rattle.digest.proofs.Cuts.{finished_md5}
use Rattle.digest.proofs.digest.Goals as goal

pub returns : goal.returns
returns c = rw (c.finish.ensures, c.feed.ensures, c.start.ensures) (finished_md5 _)
