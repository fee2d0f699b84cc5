-- `summary::once` meets its contract.
use Rattle.summary.specs.Adds.{single}
use borrow.Author.Rules.{rules}
use Rattle.summary.proofs.once.Goals as goal

pub returns : goal.returns
unfolding single
returns c = search rules
