-- `definition_steps::worked` meets its contract: each way out is one case of what reading works out.
-- Assumes nothing.
use mathlib.Core.Path.{refl, sym, ◌∙◌}
use native.Mathlib.Omega.{arith}
use Rattle.progress.proofs.Macros.{macro_below}
use Rattle.definition_steps.proofs.Working.{works_standard, works_unknown, works_macro}
use Rattle.definition_steps.proofs.worked.Goals as goal

pub returns-then-kind-le4 : goal.returns-then-kind-le4
returns-then-kind-le4 c =
    let a = c.args in
    works_standard a.file.now a.m.now a.known _ a.t.now _ _ a.used _ a.kind c.requires.0 c.if-kind-le4.true c.standard.ensures

pub returns-in_default : goal.returns-in_default
returns-in_default c =
    let a = c.args in
    works_unknown a.file.now a.m.now a.known _ a.t.now _ _ a.used _ a.kind c.requires.0 c.if-kind-le4.false _
    (sym c.search_name-found.ensures ∙ c.in_default.is) refl

pub macro_at-r-requires : goal.macro_at-r-requires
macro_at-r-requires c =
    let a = c.args in
    let l = macro_below a.file.now a.m.now a.known _ _ (sym c.search_name-found.ensures ∙ c.in-Ok.is) in
    omega (arith, l, c.requires.1.tree.inside)

pub returns : goal.returns
returns c =
    let a = c.args in
    works_macro a.file.now a.m.now a.known _ a.t.now _ _ a.used _ a.kind c.requires.0 c.if-kind-le4.false _
    (sym c.search_name-found.ensures ∙ c.in-Ok.is) _ c.macro_at-r.ensures (rw c.part.ensures at c.work_out.ensures)
