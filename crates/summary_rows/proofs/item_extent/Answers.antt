-- `summary_rows::item_extent` meets its contract: the tests tell a contour, a flash and the rest.
use Rattle.std.specs.Prelude.{Some}
use Rattle.spans.specs.Spans.{join_rect}
use mathlib.Core.Path.{◌∙◌, ap, sym}
use Rattle.summary_rows.specs.Summed.{extent_of, points_of}
use Rattle.summary_rows.specs.Rows.{joined}
use Rattle.place.specs.Item.{has_start, has_end}
use Rattle.base.proofs.Tests.{tests}
use mathlib.Core.Path.{sym}
use Rattle.summary_rows.proofs.item_extent.Goals as goal

pub returns-then-k-eq5 : goal.returns-then-k-eq5
unfolding extent_of points_of has_end
returns-then-k-eq5 c = simp (tests, c.if-k-eq5.true)

pub returns-then-k-eq4 : goal.returns-then-k-eq4
unfolding extent_of points_of has_start has_end joined
returns-then-k-eq4 c = let t = c.if-k-eq4.true in let f = c.if-k-eq5.false in simp (tests, t, f, sym c.rect_at.ensures)

pub returns : goal.returns
unfolding extent_of points_of has_start has_end joined
returns c = let t = c.if-k-eq4.false in let f = c.if-k-eq5.false in
    simp (tests, t, f) (ap Some (c.join_rect.ensures ∙ (λ i. join_rect (c.rect_at-2.ensures i) (c.rect_at-3.ensures i))))
