-- `demands::short` meets its contract: what the short call promises is what is demanded of it.
-- Assumes nothing.
use Rattle.progress.specs.Lent.{lent_of}
use Rattle.demands.proofs.Demands.{short_demands}
use Rattle.demands.proofs.short.Goals as goal

pub returns : goal.returns
unfolding lent_of
returns c =
    short_demands (lent_of _ _ _ _ _) (lent_of _ _ _ _ _) c.read.ensures
