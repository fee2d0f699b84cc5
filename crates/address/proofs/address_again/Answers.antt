-- `address::address_again` meets its contract: where an address names an item, the address that is written for it is the same.
use Rattle.address.proofs.Undo.{address_told, address_refused}
use Rattle.address.proofs.address_again.Goals as goal

pub returns-then-named-eq0 : goal.returns-then-named-eq0
returns-then-named-eq0 c =
    let asked = c.address_of.ensures in
    address_told _ _ _ _ _ _ _ c.item_of-named.ensures c.if-named-eq0.true asked.0 asked.1

pub returns : goal.returns
returns c = address_refused _ _ _ _ _ c.item_of-named.ensures c.if-named-eq0.false
