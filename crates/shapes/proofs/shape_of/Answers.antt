-- `shapes::shape_of` meets its contract: whether the store is one, and what the links lead to, pick the row.
-- Assumes nothing.
use Rattle.shapes.proofs.Stores.{apertures_there, numbers_there}
use Rattle.shapes.proofs.Leading.{led_within}
use Rattle.shapes.specs.Shapes.{judged, found_by, lookup_of}
use Rattle.base.proofs.Choose.{row_holds, row_fails}
use native.Mathlib.Omega.{arith}
use mathlib.Core.Path.{refl, sym, ap, ◌∙◌}
use Rattle.std.proofs.Common.{rules, ◌≡◌, ℕ, List, ℤ, Err}
use Rattle.shapes.specs.declared.LookupError.{LookupError}
use Rattle.shapes.specs.declared.LookupError.TheVariants.{Unknown, NotSheet}
use Rattle.shapes.proofs.shape_of.Goals as goal

found_err : (head a : List ℕ) (n : List ℤ) (e : LookupError) → found_by head a n (Err e) ≡ Err e
unfolding found_by
found_err head a n Unknown = refl
found_err head a n NotSheet = refl

pub returns-then-not-store_ok : goal.returns-then-not-store_ok
unfolding lookup_of
returns-then-not-store_ok c = row_fails _ (sym c.store_ok.ensures ∙ c.if-not-store_ok.true) refl

pub search-requires : goal.search-requires
search-requires c = let a = c.args in let h = apertures_there a.head.now a.a.now a.numbers.now (sym c.store_ok.ensures ∙ c.if-not-store_ok.false) in omega (arith, c.index.ensures)

pub aperture_at-requires : goal.aperture_at-requires
aperture_at-requires c =
    let a = c.args in let h = apertures_there a.head.now a.a.now a.numbers.now (sym c.store_ok.ensures ∙ c.if-not-store_ok.false) in let k = led_within _ _ _ _ (sym (rw c.index.ensures at c.search.ensures) ∙ c.in_ok-i.was) in omega (arith, h, k)

pub judged-requires : goal.judged-requires
judged-requires c =
    let a = c.args in numbers_there a.head.now a.a.now a.numbers.now (sym c.store_ok.ensures ∙ c.if-not-store_ok.false)

pub returns-in_err-i : goal.returns-in_err-i
unfolding lookup_of found_by
returns-in_err-i c =
    let A = c.args in
    let e : c.from_residual.result ≡ Err c.in_err-i.field-0.0 = search rules in
    row_holds _ (sym c.store_ok.ensures ∙ c.if-not-store_ok.false) (e ∙ rw (sym (rw c.index.ensures at c.search.ensures) ∙ c.in_err-i.was) (sym (found_err A.head.now A.a.now A.numbers.now _)))

pub returns : goal.returns
unfolding lookup_of found_by
returns c =
    row_holds _ (sym c.store_ok.ensures ∙ c.if-not-store_ok.false) (rw (sym (rw c.index.ensures at c.search.ensures) ∙ c.in_ok-i.was) (c.judged.ensures ∙ ap (judged _ _) c.aperture_at.ensures))
