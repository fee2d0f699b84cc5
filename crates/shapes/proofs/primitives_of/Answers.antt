-- `shapes::primitives_of` meets its contract: cleared words are filled from the numbers of the aperture that is found, and stay as they are where there is none.
-- Assumes nothing.
use Rattle.shapes.proofs.Answers.{fetch_done, fetch_past, fetch_unknown, fetch_not}
use Rattle.shapes.proofs.Sound.{lookup_sound}
use native.Mathlib.Omega.{arith}
use mathlib.Core.Path.{◌≡◌, sym, ap, ◌∙◌}
use Rattle.shapes.specs.declared.LookupError.TheVariants as lookup_error
use Rattle.std.specs.Prelude.{Err}
use borrow.Author.Rules.{rules}
use Rattle.shapes.proofs.primitives_of.Goals as goal

pub overflow_add-end : goal.overflow_add-end
overflow_add-end c =
    let d = lookup_sound _ _ _ _ _ (sym c.shape_of-l.ensures ∙ c.in-Ok.is) in
    let w = (d.whole (omega (arith, c.if-i-s.true))).inside in
    search rules

pub skip-from-requires : goal.skip-from-requires
skip-from-requires c =
    let d = lookup_sound _ _ _ _ _ (sym c.shape_of-l.ensures ∙ c.in-Ok.is) in
    d.whole (omega (arith, c.if-i-s.true))

pub fill-requires : goal.fill-requires
fill-requires c =
    (c.skip-from.ensures.0, rw c.clear.auto.s c.clear.ensures)

pub returns-then-i-s : goal.returns-then-i-s
returns-then-i-s c =
    fetch_done _ _ _ _ _ _ _ (sym c.shape_of-l.ensures ∙ c.in-Ok.is) _ c.if-i-s.true c.skip-from.ensures.1
    (rw c.clear.auto.s at c.fill.ensures)

pub returns-else-i-s : goal.returns-else-i-s
returns-else-i-s c =
    fetch_past _ _ _ _ _ _ _ (sym c.shape_of-l.ensures ∙ c.in-Ok.is) c.if-i-s.false c.clear.ensures

pub returns-in-Err-Unknown : goal.returns-in-Err-Unknown
returns-in-Err-Unknown c =
    let h : c.shape_of-l.result ≡ Err c.in-Err-Unknown.field-0 = c.in-Err-Unknown.is in
    let e : c.shape_of-l.result ≡ Err lookup_error.Unknown = h ∙ ap Err (rw h at c.in-Err-Unknown.field-0-is) in
    fetch_unknown _ _ _ _ _ _ _ (sym c.shape_of-l.ensures ∙ e) c.clear.ensures

pub returns-in-Err-NotSheet : goal.returns-in-Err-NotSheet
returns-in-Err-NotSheet c =
    let h : c.shape_of-l.result ≡ Err c.in-Err-NotSheet.field-0 = c.in-Err-NotSheet.is in
    let e : c.shape_of-l.result ≡ Err lookup_error.NotSheet = h ∙ ap Err (rw h at c.in-Err-NotSheet.field-0-is) in
    fetch_not _ _ _ _ _ _ _ (sym c.shape_of-l.ensures ∙ e) c.clear.ensures
