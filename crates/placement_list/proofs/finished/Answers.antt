-- `placement_list::finished` meets its contract: the pen says whether all was written.
-- Assumes nothing.
use mathlib.Core.Bool.{true, false, true≢false, false≢true}
use mathlib.Core.Path.{refl, sym, ◌∙◌}
use Rattle.placement_list.proofs.finished.Goals as goal

pub returns-then-pen : goal.returns-then-pen
returns-then-pen c = ((λ e. (c.refused.ensures, c.clear_bytes.ensures)), λ e. absurd (true≢false (sym c.if-pen.true ∙ e)))

pub returns : goal.returns
returns c = ((λ e. absurd (false≢true (sym c.if-pen.false ∙ e))), λ e. (refl, refl))
