-- `descend::item_at` meets its contract: each step goes down to a lower container, and the height left falls by one.
use mathlib.Core.Path.{subst}
use Rattle.descend.specs.Search.{Descends}
use Rattle.descend.proofs.Descent.{answer_here, answer_below}
use Rattle.descend.proofs.+item_at.Goals as goal

pub place_item-requires : goal.place_item-requires
place_item-requires t c =
    let A = c.args in
    (answer_below A.e.now A.a.now A.left A.k A.n _ _ _ _ c.requires (subst (Descends A.e.now A.a.now A.k A.n) c.in-Copied.is c.descend.ensures)).can_place
    _ c.item_at.ensures

pub flash_item-requires : goal.flash_item-requires
flash_item-requires t c =
    let A = c.args in
    (answer_below A.e.now A.a.now A.left A.k A.n _ _ _ _ c.requires (subst (Descends A.e.now A.a.now A.k A.n) c.in-Flashed.is c.descend.ensures)).can_place
    _ c.item_at-in-Flashed.ensures

pub returns-in-Here : goal.returns-in-Here
returns-in-Here t c =
    let A = c.args in answer_here _ _ _ _ _ _ c.requires (subst (Descends A.e.now A.a.now A.k A.n) c.in-Here.is c.descend.ensures)

pub returns-in-Copied : goal.returns-in-Copied
returns-in-Copied t c =
    let A = c.args in
    rw c.place_item.ensures
    ((answer_below A.e.now A.a.now A.left A.k A.n _ _ _ _ c.requires (subst (Descends A.e.now A.a.now A.k A.n) c.in-Copied.is c.descend.ensures)).gives
    _ c.item_at.ensures)

pub returns-in-Flashed : goal.returns-in-Flashed
returns-in-Flashed t c =
    let A = c.args in
    rw c.flash_item.ensures
    ((answer_below A.e.now A.a.now A.left A.k A.n _ _ _ _ c.requires (subst (Descends A.e.now A.a.now A.k A.n) c.in-Flashed.is c.descend.ensures)).gives
    _ c.item_at-in-Flashed.ensures)
