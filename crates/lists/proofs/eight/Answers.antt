-- `lists::eight` meets its contract: the first m slots of the array are those that `fill` set, and the others are zero items as before.
use Rattle.lists.specs.Lists.{batch_of}
use Rattle.lists.proofs.Upto.{front_filled}
use Rattle.lists.proofs.eight.Goals as goal

pub returns : goal.returns
unfolding batch_of
returns c =
    let A = c.args in
    let filled_so = front_filled A.head.now A.e.now A.a.now A.k A.m _ _ c.requires c.blank-items.ensures c.fill-number.ensures.1 in
    λ j. record { number = c.fill-number.ensures.0 j; items = filled_so j }
