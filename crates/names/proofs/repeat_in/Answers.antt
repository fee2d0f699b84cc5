use Prim.Native.Nat.{◌-◌}
use mathlib.Core.Path.{refl, ◌∙◌}
use mathlib.Core.List.{[]}
use native.Mathlib.Omega.{arith}
use Rattle.names.specs.Twice.{twice_at}
use Rattle.names.proofs.Going.{narrow_same}
use Rattle.names.proofs.Parted.{twice_from_lem, twice_inside}
use Rattle.names.proofs.repeat_in.Goals as goal

pub loop-at-init : goal.loop-at-init
unfolding twice_at
loop-at-init c = (omega arith, omega arith, twice_inside c.args.book c.args.file.now 0 (omega arith), refl)

pub walk_from-p-requires : goal.walk_from-p-requires
walk_from-p-requires c =
    let v = c.loop-at.invariant in
    let w = c.requires in
    (omega (arith, v.1), omega (arith, v.3, w.0), narrow_same _ _ _ v.3 w.1)

pub loop-at-smaller : goal.loop-at-smaller
loop-at-smaller c =
    let p = c.walk_from-p.ensures.0 in
    omega (arith, p.onward, p.inside)

pub loop-at-preserved : goal.loop-at-preserved
loop-at-preserved c =
    let p = c.walk_from-p.ensures.0 in
    let v = c.loop-at.invariant in
    (p.inside, omega (arith, c.min-found.ensures, v.1), omega (arith, c.min-found.ensures, p.least, v.2), c.walk_from-p.ensures.1 ∙ v.3)

pub shape_of-s : goal.shape_of-s
shape_of-s c = c.loop-at.invariant.3

pub returns : goal.returns
returns c =
    let l = c.loop-at in
    let p = twice_from_lem c.args.book c.args.file.now l.at [] l.invariant.0 in
    (omega (arith, p, l.invariant.2, c.loop-at-test.false), l.invariant.3)
