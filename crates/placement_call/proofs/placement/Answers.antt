-- `placement_call::placement` meets its contract: what the reader answers says which reading it is, and the rest is a refusal or `assemble`'s answer.
-- Assumes nothing.
use mathlib.Core.Path.{sym, ap, ◌∙◌}
use Prim.Native.Nat.{ℕ}
use lib.ListN.{replicate}
use Rattle.placement_call.proofs.Answers.{places_refused, places_read}
use Rattle.placement_call.proofs.Sheets.{is_refused_lem, is_accepted, sheeted}
use Rattle.progress.specs.Lent.{lent_of}
use Rattle.placement_call.proofs.placement.Goals as goal

pub assemble-requires : goal.assemble-requires
unfolding lent_of sheeted
assemble-requires c =
    (sheeted _ _ _ _ (is_accepted _ _ _ _ _ _ c.read_as-r.ensures c.in-Ok.is), c.clear_bytes.ensures ∙ ap (λ (n : ℕ). replicate n 0) (sym c.clear_bytes.auto.s))

pub returns-in-Err : goal.returns-in-Err
unfolding lent_of sheeted
returns-in-Err c =
    places_refused _ _ _ _ _ _ _ c.read_as-r.ensures (is_refused_lem _ _ _ _ _ _ c.read_as-r.ensures c.in-Err.is) c.clear_bytes.ensures c.refused.ensures

pub shape_of-out-in-Ok : goal.shape_of-out-in-Ok
shape_of-out-in-Ok c =
    c.assemble.auto.out ∙ c.clear_bytes.auto.s

pub returns-in-Ok : goal.returns-in-Ok
unfolding lent_of sheeted
returns-in-Ok c =
    let k = is_accepted _ _ _ _ _ _ c.read_as-r.ensures c.in-Ok.is in places_read _ _ _ _ _ _ _ c.read_as-r.ensures k.is c.clear_bytes.auto.s (c.assemble.ensures (sheeted _ _ _ _ k))
