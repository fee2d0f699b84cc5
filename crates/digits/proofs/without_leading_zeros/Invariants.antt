-- `digits::without_leading_zeros` meets its contract: a zero there makes no difference.
use Rattle.std.proofs.Common.{◌≡◌, length}
use Rattle.digits.specs.Zeros.{drop_leading_zeros}
use Rattle.digits.proofs.without_leading_zeros.Given as goal

abbrev pub invariant-loop-rest : goal.invariant-loop-rest
invariant-loop-rest l = drop_leading_zeros l.rest ≡ drop_leading_zeros l.t

abbrev pub decreases-loop-rest : goal.decreases-loop-rest
decreases-loop-rest l = length l.rest
