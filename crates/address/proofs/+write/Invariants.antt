use Rattle.std.proofs.Common.{length}
use Rattle.address.proofs.+write.Given as goal

-- proposed from what the function passes where it calls itself
abbrev pub decreases-write : goal.decreases-write
decreases-write l = length l.out.now
