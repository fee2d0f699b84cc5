-- `summary::fill` meets its contract: where one pass does not do, the words are as they were, and the rows are filled aperture by aperture.
use mathlib.Core.Path.{◌∙◌}
use Rattle.summary_by_aperture.proofs.Answers.{fits_same}
use Rattle.summary.proofs.fill.Goals as goal

pub fill_linked-requires : goal.fill_linked-requires
fill_linked-requires c = c.requires

pub shape_of-s-then-fill_linked : goal.shape_of-s-then-fill_linked
shape_of-s-then-fill_linked c = c.fill_linked.auto.s

pub shape_of-out-then-fill_linked : goal.shape_of-out-then-fill_linked
shape_of-out-then-fill_linked c = c.fill_linked.auto.out

pub returns-then-fill_linked : goal.returns-then-fill_linked
returns-then-fill_linked c = c.fill_linked.ensures.0 c.if-fill_linked.true

pub fill-requires : goal.fill-requires
fill-requires c =
    let w = c.requires in
    let same = c.fill_linked.ensures.1 c.if-fill_linked.false in
    (fits_same _ _ _ _ _ c.fill_linked.auto.s w.0, rw same w.1, rw same w.2)

pub shape_of-s : goal.shape_of-s
shape_of-s c =
    c.fill.auto.s ∙ c.fill_linked.auto.s

pub shape_of-out : goal.shape_of-out
shape_of-out c =
    c.fill.auto.out ∙ c.fill_linked.auto.out

pub returns : goal.returns
returns c =
    rw c.fill_linked.auto.out at c.fill.ensures
