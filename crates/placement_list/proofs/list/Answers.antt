-- `placement_list::list` meets its contract: one law for each way out (`item_lists`, `pins_list`, `finished_lists`).
-- Assumes nothing.
use mathlib.Core.Path.{sym, ap, ◌∙◌}
use Prim.Native.Nat.{ℕ, ◌/◌}
use lib.Dec.{ltb}
use Rattle.seeing.specs.Layer.{parts}
use Rattle.law_components.specs.Chain.{link_width}
use Rattle.law_components.specs.Answer.{listed_pins}
use Rattle.placement_list.proofs.Lists.{item_lists, pins_list, finished_lists, all_held, no_fault, few_pins, many_pins}
use Rattle.placement_list.specs.Lists.{answered}
use Rattle.placement_list.proofs.list.Goals as goal

pub returns-then-f-ne0 : goal.returns-then-f-ne0
returns-then-f-ne0 c =
    λ w. let j = c.faults-f.ensures w.layer w.marked in item_lists _ _ (parts w.layer) _ w.clear j.is c.if-f-ne0.true (c.refused.ensures ∙ ap (λ (p : ℕ). answered c.faults-f.result.number p 0) c.index.ensures)

pub put_list-pen-requires : goal.put_list-pen-requires
put_list-pen-requires c =
    let w = c.requires in let j = c.faults-f.ensures w.layer w.marked in let z = c.if-f-ne0.false in let s = all_held j z in let k = c.link_pins.ensures w.layer s (j.marked z) in record { layer = w.layer; of = w.of; sound = s; linked = k.linked c.if-link_pins.true }

pub returns-then-link_pins : goal.returns-then-link_pins
returns-then-link_pins c =
    λ w. let j = c.faults-f.ensures w.layer w.marked in let z = c.if-f-ne0.false in let s = all_held j z in let k = c.link_pins.ensures w.layer s (j.marked z) in let t = c.if-link_pins.true in finished_lists _ (parts w.layer) w.clear (no_fault j z) (ap (λ (n : ℕ). ltb (n / link_width) (listed_pins (parts w.layer))) (sym c.link_pins.auto.pins) ∙ few_pins k t) (c.put_list-pen.ensures (record { layer = w.layer; of = w.of; sound = s; linked = k.linked t })) c.finished.ensures

pub returns : goal.returns
returns c =
    λ w. let j = c.faults-f.ensures w.layer w.marked in let z = c.if-f-ne0.false in let s = all_held j z in let k = c.link_pins.ensures w.layer s (j.marked z) in let t = c.if-link_pins.false in pins_list _ _ (parts w.layer) _ w.clear (no_fault j z) (ap (λ (n : ℕ). ltb (n / link_width) (listed_pins (parts w.layer))) (sym c.link_pins.auto.pins) ∙ many_pins k t) c.refused-2.ensures
