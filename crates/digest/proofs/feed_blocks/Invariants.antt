-- `digest::feed_blocks` meets its contract: before each turn, the blocks left lead to where all lead.
use Rattle.std.proofs.Common.{◌≡◌, ◌/◌, length}
use Rattle.digest.specs.Md5.{blocks}
use Rattle.digest.proofs.feed_blocks.Given as goal

abbrev pub invariant-loop-x : goal.invariant-loop-x
invariant-loop-x l = blocks (length l.left / 64) l.left l.v ≡ blocks (length l.t / 64) l.t l.initial.v

abbrev pub decreases-loop-x : goal.decreases-loop-x
decreases-loop-x l = length l.left
