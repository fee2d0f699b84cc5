-- `digits::without_trailing_zeros` meets its contract: a zero there makes no difference.
use Rattle.std.proofs.Common.{◌≡◌, length}
use Rattle.digits.specs.Zeros.{drop_trailing_zeros}
use Rattle.digits.proofs.without_trailing_zeros.Given as goal

abbrev pub invariant-loop-rest : goal.invariant-loop-rest
invariant-loop-rest l = drop_trailing_zeros l.rest ≡ drop_trailing_zeros l.t

abbrev pub decreases-loop-rest : goal.decreases-loop-rest
decreases-loop-rest l = length l.rest
