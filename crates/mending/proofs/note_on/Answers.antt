-- `mending::note_on` meets its contract: `note` tells whether the words fit.
-- Assumes nothing.
use mathlib.Core.Path.{sym, ◌∙◌}
use native.Mathlib.Omega.{arith}
use Rattle.mending.proofs.Noting.{holds_fits, noted_more, noted_full, noted_not}
use Rattle.mending.proofs.note_on.Goals as goal

pub overflow_add-result : goal.overflow_add-result
overflow_add-result c = omega (arith, holds_fits _ _ _ (sym c.if-note.true ∙ c.note.ensures.0))

pub returns-then-note : goal.returns-then-note
returns-then-note c = noted_more c.if-t.true c.note.ensures.0 c.note.ensures.1 c.if-note.true

pub returns-then-t : goal.returns-then-t
returns-then-t c = noted_full c.if-t.true c.note.ensures.0 c.note.ensures.1 c.if-note.false

pub returns : goal.returns
returns c = noted_not c.if-t.false
