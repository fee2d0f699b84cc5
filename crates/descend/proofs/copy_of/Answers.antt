-- `descend::copy_of` meets its contract: each call is a part of `copy_of`, and `Split` says that nothing wraps.
use Rattle.descend.specs.Search.{copy_of}
use Rattle.sheet.specs.Meaning.{repeat_of}
use Rattle.descend.proofs.copy_of.Goals as goal

pub step_to-pose-requires : goal.step_to-pose-requires
unfolding repeat_of
step_to-pose-requires c = let p = c.requires in rw c.repeat_of.ensures (p.step_x, p.step_y)

pub returns : goal.returns
unfolding copy_of
returns c = cc
