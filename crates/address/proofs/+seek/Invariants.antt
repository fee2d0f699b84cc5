use Rattle.std.proofs.Common.{length}
use Rattle.address.proofs.+seek.Given as goal

-- proposed from what the function passes where it calls itself
abbrev pub decreases-seek : goal.decreases-seek
decreases-seek l = length l.rest.now
