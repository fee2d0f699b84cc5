-- `decimal::decimal` meets its contract: the callees' answers, put together, are the definition.
use Rattle.decimal.specs.Decimal.{decimal_of}
use Rattle.decimal.proofs.Point.{before_first, after_first}
use Rattle.decimal.proofs.decimal.Goals as goal

pub returns : goal.returns
unfolding decimal_of
returns c = cc (before_first c.after_sign-rest.result.now, after_first c.after_sign-rest.result.now)
