-- `notes::designate` meets its contract: what the search finds, and whether there is room, pick the case.
-- Assumes nothing.
use Rattle.notes.proofs.Designators.{kept_found, kept_new, kept_full, found_below, room_is}
use native.Mathlib.Omega.{arith}
use mathlib.Core.Path.{sym, ◌∙◌}
use Rattle.notes.proofs.designate.Goals as goal

pub overflow_add-result : goal.overflow_add-result
overflow_add-result c =
    let A = c.args in omega (arith, found_below _ _ _ _ _ (sym c.search_name-found.ensures ∙ c.in-Ok.is), c.requires.0.named.tree.inside)

pub returns-then-put_macro : goal.returns-then-put_macro
returns-then-put_macro c =
    kept_new _ _ _ c.requires.0 c.args.p (sym c.search_name-found.ensures ∙ c.in-Err.is) (room_is _ _ (sym c.put_macro.ensures.0 ∙ c.if-put_macro.true)) c.put_macro.ensures.1 c.put_macro.auto.m

pub returns-in-Ok : goal.returns-in-Ok
returns-in-Ok c =
    kept_found _ _ _ c.requires.0 c.args.p (sym c.search_name-found.ensures ∙ c.in-Ok.is)

pub returns-else-put_macro : goal.returns-else-put_macro
returns-else-put_macro c =
    kept_full _ _ _ c.requires.0 c.args.p (sym c.search_name-found.ensures ∙ c.in-Err.is) (sym c.put_macro.ensures.0 ∙ c.if-put_macro.false) c.put_macro.ensures.1
