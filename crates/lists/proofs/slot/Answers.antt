-- `lists::slot` meets its contract: the number says whether the store is a sheet with an item k, the descent answers item k + i.
use Rattle.descend.proofs.Answers.{asked_top}
use Rattle.lists.proofs.Answers.{is_valid, is_inside, slot_is, slot_past, slot_refused}
use native.Mathlib.Omega.{arith}
use Rattle.lists.proofs.slot.Goals as goal

pub overflow_sub-top : goal.overflow_sub-top
overflow_sub-top c =
    let l = is_inside _ _ _ _ _ c.requires c.if-n-ne0.false in
    rw c.top_of-top.ensures (omega (arith, l))

pub item_at-requires : goal.item_at-requires
item_at-requires c =
    let A = c.args in
    let l = is_inside A.head.now A.e.now A.a.now _ _ c.requires c.if-n-ne0.false in
    rw c.top_of-top.ensures (asked_top A.head.now A.e.now A.a.now _ (is_valid A.head.now A.e.now A.a.now _ _ c.requires c.if-n-ne0.false)
    (let q = rw c.top_of-top.ensures at c.if-i-top.false in omega (arith, q, l)))

pub returns : goal.returns
returns c =
    slot_is _ _ _ _ _ (is_valid _ _ _ _ _ c.requires c.if-n-ne0.false) (rw c.top_of-top.ensures at c.item_at.ensures.is)

pub returns-then-i-top : goal.returns-then-i-top
returns-then-i-top c =
    let A = c.args in
    let l = is_inside A.head.now A.e.now A.a.now _ _ c.requires c.if-n-ne0.false in
    slot_past _ _ _ _ _ (is_valid A.head.now A.e.now A.a.now _ _ c.requires c.if-n-ne0.false) (let q = rw c.top_of-top.ensures at c.if-i-top.true in omega (arith, q, l)) c.zero_item-then-i-top.ensures

pub returns-then-n-ne0 : goal.returns-then-n-ne0
returns-then-n-ne0 c = slot_refused _ _ _ _ _ _ _ c.requires c.if-n-ne0.true c.zero_item.ensures
