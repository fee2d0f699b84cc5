-- `digits::is_digit` meets its contract: the library's range is that of `is_digit`.
-- Assumes nothing.
use Rattle.base.specs.And.{◌and◌}
use Rattle.digits.specs.Digits.{is_digit}
use Rattle.digits.proofs.is_digit.Goals as goal

pub returns : goal.returns
unfolding is_digit ◌and◌
returns c = c.is_ascii_digit.ensures.value
