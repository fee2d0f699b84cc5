-- `formats::zeros_behind` meets its contract: the flag picks the case of `zeros_behind`.
-- Assumes nothing.
use native.Mathlib.Omega.{arith}
use Rattle.formats.specs.Format.{places_of}
use Rattle.formats.specs.Raised.{zeros_behind}
use Rattle.formats.proofs.zeros_behind.Goals as goal

pub overflow_add-result : goal.overflow_add-result
unfolding places_of
overflow_add-result c = omega (arith, c.saturating_sub-left_out.ensures, c.places.ensures, c.requires.ahead, c.requires.behind)

pub returns-then-f : goal.returns-then-f
unfolding zeros_behind places_of
returns-then-f c = rw c.if-f.true (omega (arith, c.saturating_sub-left_out.ensures, c.places.ensures))

pub returns-else-f : goal.returns-else-f
unfolding zeros_behind
returns-else-f c = rw c.if-f.false (omega arith)
