-- `steps::operate` meets its contract: each operation by its function's promise; D02 leaves the entries.
-- Assumes nothing.
use mathlib.Core.Path.{refl, sym}
use Rattle.law_reading.specs.Steps.{operation_step}
use Rattle.steps.proofs.Arms.{same_entries}
use Rattle.steps.proofs.operate.Goals as goal

pub draw-requires : goal.draw-requires
draw-requires c = c.requires

pub flash-requires : goal.flash-requires
flash-requires c = c.requires

pub returns-in-Draw : goal.returns-in-Draw
unfolding operation_step
returns-in-Draw c = (c.draw.ensures.0, rw c.in-Draw.is c.draw.ensures.1)

pub returns-in-Move : goal.returns-in-Move
unfolding operation_step
returns-in-Move c = (refl, rw c.in-Move.is (λ w s q k. rw (sym (same_entries w q)) (c.go.ensures w s tt k)))

pub returns-in-Flash : goal.returns-in-Flash
unfolding operation_step
returns-in-Flash c = (c.flash.ensures.0, rw c.in-Flash.is c.flash.ensures.1)
