-- `seeing::see` meets its contract: the descent finds the item, the notes its texts, the table its role (`seen_is`).
-- Assumes nothing.
use Rattle.seeing.proofs.Sights.{asks_item, seeks_note, seen_is}
use Rattle.seeing.proofs.see.Goals as goal

pub item_at-t-requires : goal.item_at-t-requires
item_at-t-requires c = asks_item c.requires.0 _ c.requires.1

pub find-requires : goal.find-requires
find-requires c =
    seeks_note c.requires.0 _ c.requires.1 c.item_at-t.ensures.is

pub returns : goal.returns
returns c =
    λ l. seen_is l _ c.requires.1 c.item_at-t.ensures.is c.function_of.ensures c.role_by-role.ensures c.find.ensures c.note_at-note.ensures
