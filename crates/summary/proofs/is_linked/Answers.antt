-- `summary::is_linked` meets its contract: `all` asks of each record whether the links lead to it.
use Rattle.std.proofs.Common.{rules}
use Rattle.sheet.proofs.Ranges.{every_from_all}
use Rattle.summary.specs.Links.{is_linked}
use Rattle.summary.proofs.is_linked.Goals as goal

pub returns : goal.returns
unfolding is_linked
returns c = every_from_all _ _ _ _ _ _ c.all.ensures.ran (search rules) (λ x q k. search rules) (λ x q k. search rules)
