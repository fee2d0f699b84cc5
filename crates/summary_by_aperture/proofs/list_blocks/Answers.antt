use mathlib.Core.Path.{◌≡◌, refl, ◌∙◌}
use native.Mathlib.Omega.{arith}
use Rattle.summary_by_aperture.proofs.Listed.{listed_start}
use Rattle.summary_by_aperture.proofs.list_blocks.Goals as goal

pub loop-h-init : goal.loop-h-init
loop-h-init c = (omega arith, refl, listed_start _ _ _)

pub list_height-r-requires : goal.list_height-r-requires
list_height-r-requires c = let w = c.requires in let i = c.loop-h.invariant in (w.0, rw i.1 w.1, i.2)

pub loop-h-preserved : goal.loop-h-preserved
loop-h-preserved c = (omega arith, c.list_height-r.auto.s ∙ c.loop-h.invariant.1, c.list_height-r.ensures)

pub shape_of-s : goal.shape_of-s
shape_of-s c = c.loop-h.invariant.1

pub returns : goal.returns
returns c = let e : c.loop-h.h ≡ 9 = omega arith in rw e at c.loop-h.invariant.2
