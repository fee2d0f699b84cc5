-- `inspect::bodies_ok` meets its contract: `all` asks of each entry whether the body that it repeats is in order.
use Rattle.std.proofs.Common.{rules}
use Rattle.sheet.proofs.Ranges.{every_from_all}
use Rattle.inspect.proofs.bodies_ok.Goals as goal

pub returns : goal.returns
returns c = every_from_all _ _ _ _ _ _ c.all.ensures.ran (search rules) (λ x q k. search rules) (λ x q k. search rules)
