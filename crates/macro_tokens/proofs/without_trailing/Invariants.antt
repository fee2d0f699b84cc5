-- `macro_tokens::without_trailing` meets its contract: a line end at the end makes no difference.
use Rattle.std.proofs.Common.{◌≡◌, length}
use Rattle.macro_tokens.specs.LineEnds.{without_trailing}
use Rattle.macro_tokens.proofs.without_trailing.Given as goal

abbrev pub invariant-loop-rest : goal.invariant-loop-rest
invariant-loop-rest l = without_trailing l.rest ≡ without_trailing l.t

abbrev pub decreases-loop-rest : goal.decreases-loop-rest
decreases-loop-rest l = length l.rest
