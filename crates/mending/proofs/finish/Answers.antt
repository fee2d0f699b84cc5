-- `mending::finish` meets its contract: `lay` tells whether the bytes fit, and the tally whether the words do.
-- Assumes nothing.
use mathlib.Core.Path.{sym, ◌∙◌}
use native.Mathlib.Omega.{arith}
use Rattle.mending.proofs.Noting.{holds_fits, finished_both, finished_file, finished_not}
use Rattle.mending.proofs.finish.Goals as goal

pub overflow_add-result : goal.overflow_add-result
overflow_add-result c = omega (arith, holds_fits _ _ _ (sym c.if-lay.true ∙ c.lay.ensures.0))

pub returns-then-r : goal.returns-then-r
returns-then-r c =
    finished_both c.lay.ensures.0 c.lay.ensures.1 c.if-lay.true c.note_on-r.ensures c.if-r.true

pub overflow_add-result-then-lay : goal.overflow_add-result-then-lay
overflow_add-result-then-lay c = omega (arith, holds_fits _ _ _ (sym c.if-lay.true ∙ c.lay.ensures.0))

pub returns-then-lay : goal.returns-then-lay
returns-then-lay c =
    finished_file c.lay.ensures.0 c.lay.ensures.1 c.if-lay.true c.note_on-r.ensures c.if-r.false

pub returns : goal.returns
returns c = finished_not c.lay.ensures.0 c.lay.ensures.1 _ _ _ c.if-lay.false
