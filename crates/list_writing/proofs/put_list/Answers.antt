use Prim.Native.Nat.{◌-◌}
use mathlib.Core.Bool.{false}
use mathlib.Core.Path.{refl, ◌∙◌}
use native.Mathlib.Omega.{arith}
use Rattle.list_writing.proofs.Putting.{walks_pins, walking_pins, entry_more, entry_none, list_start, list_end}
use Rattle.seeing.proofs.Sights.{few_items}
use Rattle.list_writing.proofs.put_list.Goals as goal

pub loop-k-init : goal.loop-k-init
loop-k-init c = (refl, λ w. list_start w)

pub see-s-requires : goal.see-s-requires
see-s-requires c = (c.requires.layer, c.loop-k-test.true)

pub loop-k-preserved-then-d-eq0 : goal.loop-k-preserved-then-d-eq0
loop-k-preserved-then-d-eq0 c =
    let i = c.loop-k.invariant in let t = c.loop-k-test.true in (i.0, λ w. entry_none w t (c.see-s.ensures w.layer) c.main_of-d.ensures c.if-d-eq0.true (i.1 w))

pub put_entry-q-requires : goal.put_entry-q-requires
put_entry-q-requires c =
    let w = c.requires in (w.layer, walking_pins w c.loop-k-test.true (c.see-s.ensures w.layer) c.main_of-d.ensures c.if-d-eq0.false)

pub loop-k-preserved : goal.loop-k-preserved
loop-k-preserved c =
    let i = c.loop-k.invariant in let t = c.loop-k-test.true in (c.put_entry-q.auto.out ∙ i.0, λ w. entry_more w t (c.see-s.ensures w.layer) c.main_of-d.ensures c.if-d-eq0.false (i.1 w) (c.put_entry-q.ensures w.layer w.of _ (walks_pins w t (c.see-s.ensures w.layer) c.main_of-d.ensures c.if-d-eq0.false)))

pub shape_of-out : goal.shape_of-out
shape_of-out c = c.loop-k.invariant.0

pub returns : goal.returns
returns c = λ w. list_end w (omega arith) c.loop-k-test.false (c.loop-k.invariant.1 w)
