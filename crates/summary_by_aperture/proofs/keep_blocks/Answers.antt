use Rattle.summary_by_aperture.proofs.Listed.{listed_few}
use mathlib.Core.Path.{◌≡◌, refl, ◌∙◌}
use native.Mathlib.Omega.{arith}
use Rattle.sheet.proofs.Sound.{rooms}
use Rattle.summary_by_aperture.proofs.Blocks.{done_start, done_more, block_inside, block_run}
use Rattle.summary_by_aperture.proofs.keep_blocks.Goals as goal

pub loop-i-init : goal.loop-i-init
loop-i-init c = (omega arith, c.index-n.ensures, refl, done_start _ _ _ _ _ _ c.requires)

pub overflow_mul-n : goal.overflow_mul-n
overflow_mul-n c =
    let w = c.requires.fits.room in let i = c.loop-i.invariant.1 in omega arith

pub overflow_add-n : goal.overflow_add-n
overflow_add-n c =
    let w = c.requires.fits.room in let i = c.loop-i.invariant.1 in let m = listed_few _ _ _ _ _ _ (omega arith) c.requires.listed in omega arith

pub keep_block-requires : goal.keep_block-requires
keep_block-requires c = let i = c.loop-i.invariant in let x = block_inside _ _ _ _ _ _ _ i.3 c.loop-i-test.true in let w = (rooms _ _ _ i.3.ready.fits.ok).1 in let u = i.3.ready.fits.room in rw (c.index-b.ensures, c.word_at.ensures, i.1) (omega (arith, x), omega (arith, x), block_run _ _ _ _ _ _ _ i.3 c.loop-i-test.true)

pub loop-i-preserved : goal.loop-i-preserved
loop-i-preserved c =
    let i = c.loop-i.invariant in let e = c.keep_block.ensures in (omega arith, i.1, c.keep_block.auto.s ∙ i.2, rw (e, c.index-b.ensures, c.word_at.ensures, i.1) (done_more _ _ _ _ _ _ _ i.3 c.loop-i-test.true))

pub shape_of-s : goal.shape_of-s
shape_of-s c = c.loop-i.invariant.2

pub returns : goal.returns
returns c =
    let i = c.loop-i.invariant in let z : c.loop-i.i ≡ c.args.m = omega arith in rw z at i.3
