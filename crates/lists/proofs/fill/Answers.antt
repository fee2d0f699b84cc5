-- `lists::fill` meets its contract: when the loop ends, each slot of the list lent is set.
-- In between the first i slots are set (`Upto.antt`'s `upto`). First `number` is called, whose answer is handed to each call of `slot` and returned.
-- All that the proof knows of the two is that each meets its contract; no field of an item is named.
use Rattle.std.proofs.Common.{◌≡◌, ℕ, ◌+◌, ap, ◌∙◌, length, arith}
use Rattle.lists.specs.Lists.{held, slot_of}
use Rattle.lists.proofs.Upto.{upto, all_set, filled_is}
use Rattle.lists.proofs.fill.Goals as goal

pub returns : goal.returns
returns c =
    let A = c.args in
    let f = λ (i : ℕ). slot_of (held A.head.now A.e.now A.a.now) (A.k + i) in
    let all : c.loop-i.i ≡ length A.list.now = omega arith in (
      c.number-n.ensures,
      c.loop-i.invariant.set_so_far
          ∙ ap (λ (i : ℕ). upto f i A.list.now) all
          ∙ all_set f A.list.now
          ∙ filled_is A.head.now A.e.now A.a.now A.k (length A.list.now),
    )
