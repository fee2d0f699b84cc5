use Rattle.summary_by_aperture.specs.Answers.{aperture_row}
use Rattle.summary_by_aperture.proofs.Answers.{put_none, put_more, put_last, fits_same}
use Rattle.sheet.proofs.Sound.{rooms}
use native.Mathlib.Omega.{arith}
use mathlib.Core.Path.{◌≡◌, refl, ◌∙◌}
use Rattle.summary_by_aperture.proofs.fill.Goals as goal

pub list_blocks-m-requires : goal.list_blocks-m-requires
list_blocks-m-requires c =
    let w = c.requires.0 in let r = (rooms _ _ _ w.ok).1 in rw c.index-n.ensures (r, w.room)

pub loop-b-init : goal.loop-b-init
loop-b-init c =
    let w = c.requires in let k = c.list_blocks-m.auto.s in (omega arith, c.index-n.ensures, refl, refl, w.2 ∙ put_none _ _ _, record { fits = fits_same _ _ _ _ _ k w.0; listed = rw c.index-n.ensures at c.list_blocks-m.ensures })

pub aperture_at-number-requires : goal.aperture_at-number-requires
aperture_at-number-requires c = let i = c.loop-b.invariant in let w = (rooms _ _ _ c.requires.0.ok).1 in omega arith

pub row_of-r-requires : goal.row_of-r-requires
row_of-r-requires c = c.loop-b.invariant.5

pub overflow_mul-b : goal.overflow_mul-b
overflow_mul-b c =
    let i = c.loop-b.invariant in let w = c.requires.1 in let t = c.loop-b-test.true in omega arith

pub put_row-requires : goal.put_row-requires
put_row-requires c =
    let i = c.loop-b.invariant in let w = c.requires.1 in let t = c.loop-b-test.true in omega arith

pub loop-b-preserved : goal.loop-b-preserved
unfolding aperture_row
loop-b-preserved c =
    let i = c.loop-b.invariant in let w = c.requires.1 in let t = c.loop-b-test.true in (
      omega arith,
      i.1,
      c.row_of-r.auto.s ∙ i.2,
      c.put_row.auto.out ∙ i.3,
      rw (i.4, c.row_of-r.ensures.0, c.aperture_at-number.ensures) at c.put_row.ensures ∙ put_more _ _ _ _ (omega arith),
      c.row_of-r.ensures.1,
    )

pub row_of-r-requires-2 : goal.row_of-r-requires-2
row_of-r-requires-2 c = c.loop-b.invariant.5

pub overflow_mul-n : goal.overflow_mul-n
overflow_mul-n c =
    let i = c.loop-b.invariant in let w = c.requires.1 in omega arith

pub put_row-requires-2 : goal.put_row-requires-2
put_row-requires-2 c =
    let i = c.loop-b.invariant in let w = c.requires.1 in omega arith

pub shape_of-s : goal.shape_of-s
shape_of-s c =
    c.row_of-r-2.auto.s ∙ c.loop-b.invariant.2 ∙ c.list_blocks-m.auto.s

pub shape_of-out : goal.shape_of-out
shape_of-out c =
    c.put_row-2.auto.out ∙ c.loop-b.invariant.3

pub returns : goal.returns
returns c =
    let i = c.loop-b.invariant in let w = c.requires.1 in let t = c.loop-b-test.false in
    let z : c.loop-b.b ≡ c.index-n.result = omega arith in
    rw (i.4, c.row_of-r-2.ensures.0, z) at c.put_row-2.ensures ∙ rw i.1 (put_last _ _ _ _ (omega arith))
