-- `inspect::blocks_ok` meets its contract: `all` asks of each block whether it is in order.
use Rattle.std.proofs.Common.{rules}
use Rattle.sheet.proofs.Ranges.{every_from_all}
use Rattle.inspect.proofs.blocks_ok.Goals as goal

pub returns : goal.returns
returns c = every_from_all _ _ _ _ _ _ c.all.ensures.ran (search rules) (λ x q k. search rules) (λ x q k. search rules)
