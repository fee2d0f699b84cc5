-- `placement_call::is_tight` meets its contract: where there is room for the notes and for the names, the apertures decide.
-- Assumes nothing.
use borrow.Author.Tests.{le-ltb}
use Rattle.base.proofs.Or.{ors}
use Rattle.placement_call.specs.Placement.{is_tight_for}
use Rattle.placement_call.proofs.is_tight.Goals as goal

pub returns-else-n-names : goal.returns-else-n-names
unfolding is_tight_for
returns-else-n-names c = simp (le-ltb _ _ c.if-n-notes.false, le-ltb _ _ c.if-n-names.false, ors)
