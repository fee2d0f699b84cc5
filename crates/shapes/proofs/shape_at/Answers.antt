-- `shapes::shape_at` meets its contract: whether the store is one, and whether so many records are used, pick the row.
-- Assumes nothing.
use Rattle.shapes.proofs.Stores.{apertures_there, numbers_there}
use Rattle.shapes.specs.Shapes.{judged, record_of}
use Rattle.base.proofs.Choose.{row_holds, row_fails}
use borrow.Author.Tests.{lt-ltb, le-ltb}
use native.Mathlib.Omega.{arith}
use mathlib.Core.Path.{refl, sym, ap, ◌∙◌}
use Rattle.shapes.proofs.shape_at.Goals as goal

pub returns-then-not-store_ok : goal.returns-then-not-store_ok
unfolding record_of
returns-then-not-store_ok c = row_fails _ (sym c.store_ok.ensures ∙ c.if-not-store_ok.true) refl

pub returns-then-b-head : goal.returns-then-b-head
unfolding record_of
returns-then-b-head c = row_holds _ (sym c.store_ok.ensures ∙ c.if-not-store_ok.false) (row_fails _ (le-ltb _ _ c.if-b-head.true) refl)

pub aperture_at-requires : goal.aperture_at-requires
aperture_at-requires c =
    let a = c.args in let h = apertures_there a.head.now a.a.now a.numbers.now (sym c.store_ok.ensures ∙ c.if-not-store_ok.false) in omega (arith, c.index.ensures, c.if-b-head.false)

pub judged-requires : goal.judged-requires
judged-requires c =
    let a = c.args in numbers_there a.head.now a.a.now a.numbers.now (sym c.store_ok.ensures ∙ c.if-not-store_ok.false)

pub returns : goal.returns
unfolding record_of
returns c =
    row_holds _ (sym c.store_ok.ensures ∙ c.if-not-store_ok.false) (row_holds _ (lt-ltb _ _ c.if-b-head.false) (c.judged.ensures ∙ ap (judged _ _) (rw c.index.ensures at c.aperture_at.ensures)))
