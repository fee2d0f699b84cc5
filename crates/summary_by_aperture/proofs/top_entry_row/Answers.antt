-- `summary_by_aperture::top_entry_row` meets its contract: the test is the one of `top_entry_row`.
use Rattle.summary_by_aperture.specs.Walk.{top_entry_row, RepeatReady}
use Rattle.sheet.specs.Meaning.{repeat_of}
use borrow.Author.Tests.{eq-eqb, ne_eqb}
use Rattle.summary_by_aperture.proofs.top_entry_row.Goals as goal

pub run_row-requires : goal.run_row-requires
run_row-requires c =
    let ready : RepeatReady c.args.e.now c.args.s.now c.args.q c.args.r =
    c.requires.repeats (eq-eqb _ _ c.if-r-eq10.true) in
    rw c.body_of.ensures ready.body

pub copy_row-requires : goal.copy_row-requires
unfolding repeat_of
copy_row-requires c =
    let ready : RepeatReady c.args.e.now c.args.s.now c.args.q c.args.r =
    c.requires.repeats (eq-eqb _ _ c.if-r-eq10.true) in
    let w = ready in rw (c.run_row.ensures, c.body_of.ensures, c.repeat_of.ensures) (w.near, w.steps, w.column, w.whole)

pub returns-then-r-eq10 : goal.returns-then-r-eq10
unfolding top_entry_row
returns-then-r-eq10 c = let t = eq-eqb _ _ c.if-r-eq10.true in
    rw t (rw (c.run_row.ensures, c.body_of.ensures, c.repeat_of.ensures) at c.copy_row.ensures)

pub returns : goal.returns
unfolding top_entry_row
returns c = let t = ne_eqb _ _ c.if-r-eq10.false in rw t c.entry_row.ensures
