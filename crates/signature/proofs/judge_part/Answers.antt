-- `signature::judge_part` meets its contract: what is held of the command before M02 is judged as that command is (`judged_held`).
use Rattle.digest.proofs.Cuts.{finished_md5}
use Rattle.signature.specs.Signature.{bare}
use Rattle.signature.proofs.Short.{judged_held}
use Rattle.signature.proofs.judge_part.Goals as goal

pub returns : goal.returns
unfolding bare
returns c =
    rw (c.judge.ensures, c.feed_text-s.ensures, c.part-2.ensures, c.start.ensures, c.hold-h.ensures, c.part.ensures, c.none.ensures, finished_md5) (judged_held _ _ _)
