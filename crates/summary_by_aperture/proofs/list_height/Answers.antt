use mathlib.Core.Path.{◌≡◌, refl, ◌∙◌}
use native.Mathlib.Omega.{arith}
use Rattle.summary_by_aperture.proofs.Listed.{listed_more, listed_height, listed_few}
use Rattle.summary_by_aperture.proofs.list_height.Goals as goal

pub loop-b-init : goal.loop-b-init
loop-b-init c = (omega arith, refl, c.requires.2)

pub list_block-r-requires : goal.list_block-r-requires
list_block-r-requires c = let w = c.requires in let i = c.loop-b.invariant in let t = c.loop-b-test.true in (omega arith, rw i.1 w.1, listed_few _ _ _ _ _ _ i.0 i.2)

pub loop-b-preserved : goal.loop-b-preserved
loop-b-preserved c =
    let w = c.requires in let i = c.loop-b.invariant in let e = c.list_block-r.ensures in (omega arith, c.list_block-r.auto.s ∙ i.1, rw (e.0, e.1) (listed_more _ _ _ _ _ _ (rw i.1 w.1) (omega arith) i.2))

pub shape_of-s : goal.shape_of-s
shape_of-s c = c.loop-b.invariant.1

pub returns : goal.returns
returns c = let i = c.loop-b.invariant in let e : c.loop-b.b ≡ c.args.n = omega arith in listed_height _ _ _ _ _ (rw e at i.2)
