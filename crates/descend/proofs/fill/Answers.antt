use Rattle.descend.proofs.Slots.{filled_none, filled_more, filled_whole, filled_past}
use Rattle.sheet.specs.Meaning.{items}
use Rattle.sheet.proofs.Expand.{length_items}
use lib.ListN.{length}
use native.Mathlib.Omega.{arith}
use mathlib.Core.Path.{refl, ◌∙◌}
use borrow.Author.Rules.{rules}
use Rattle.descend.proofs.fill.Goals as goal

pub loop-j-init : goal.loop-j-init
loop-j-init c = let A = c.args in let w = c.requires in (omega arith, refl, w.1 ∙ filled_none (items A.e.now A.a.now 10 A.k) A.n (length A.out.now), w.0, refl)

pub shape_of-out-then-i-k : goal.shape_of-out-then-i-k
shape_of-out-then-i-k c = c.loop-j.invariant.1

pub returns-then-i-k : goal.returns-then-i-k
returns-then-i-k c = let i = c.loop-j.invariant in let w = i.3 in
    let long = length_items w.head _ _ w.ok 10 _ w.sound w.sound.high in
    i.2 ∙ filled_past _ _ _ _ (omega arith) (omega arith)

pub overflow_add-i : goal.overflow_add-i
overflow_add-i c = let i = c.loop-j.invariant in let w = i.3 in search rules

pub item_at-requires : goal.item_at-requires
item_at-requires c = let i = c.loop-j.invariant in let w = i.3 in
    record { held = record { head = w.head; ok = w.ok; sound = w.sound; inside = omega arith }; high = w.sound.high }

pub overflow_mul-j : goal.overflow_mul-j
overflow_mul-j c = omega arith

pub put_item-requires : goal.put_item-requires
put_item-requires c = omega arith

pub loop-j-preserved : goal.loop-j-preserved
loop-j-preserved c =
    let i = c.loop-j.invariant in
    let A = c.args in
    let q = c.put_item.ensures in (
      omega arith,
      c.put_item.auto.out ∙ i.1,
      q ∙ rw (c.item_at.ensures.is, i.2) (filled_more (items A.e.now A.a.now 10 A.k) A.n (length A.out.now) _ (omega arith)),
      i.3,
      refl,
    )

pub shape_of-out : goal.shape_of-out
shape_of-out c = c.loop-j.invariant.1

pub returns : goal.returns
returns c = let i = c.loop-j.invariant in i.2 ∙ filled_whole _ _ _ _ (omega arith)
