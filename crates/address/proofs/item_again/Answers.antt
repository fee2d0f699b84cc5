-- `address::item_again` meets its contract: the address that is written for an item names it.
use Rattle.address.proofs.Undo.{item_told, item_refused}
use Rattle.address.proofs.item_again.Goals as goal

pub returns-then-number-eq0 : goal.returns-then-number-eq0
returns-then-number-eq0 c =
    let asked = c.address_of-number.ensures in
    item_told _ _ _ _ _ _ _ asked.0 asked.1 c.if-number-eq0.true c.item_of.ensures

pub returns : goal.returns
returns c = item_refused _ _ _ _ _ c.address_of-number.ensures.0 c.if-number-eq0.false
