-- `summary::fill_linked` meets its contract: the pass is tried where the links lead to every record.
use mathlib.Core.Path.{refl, sym, ◌∙◌}
use mathlib.Core.Bool.{true≢false}
use Rattle.sheet.proofs.Sound.{rooms}
use Rattle.summary.proofs.fill_linked.Goals as goal

pub is_linked-requires : goal.is_linked-requires
is_linked-requires c =
    let A = c.args in rw c.index-n.ensures (rooms A.head.now A.e.now A.a.now c.requires.0.ok).1

pub fill_at_once-requires : goal.fill_at_once-requires
fill_at_once-requires c =
    let w = c.requires in
    (w.0, rw c.index-n.ensures at (sym c.is_linked.ensures ∙ c.if-is_linked.true), w.1, w.2)

pub shape_of-s-then-is_linked : goal.shape_of-s-then-is_linked
shape_of-s-then-is_linked c = c.fill_at_once.auto.s

pub shape_of-out-then-is_linked : goal.shape_of-out-then-is_linked
shape_of-out-then-is_linked c = c.fill_at_once.auto.out

pub returns-then-is_linked : goal.returns-then-is_linked
returns-then-is_linked c = c.fill_at_once.ensures

pub returns : goal.returns
returns c = (λ z. absurd (true≢false (sym z)), λ z. refl)
