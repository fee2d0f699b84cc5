-- `tables::put_record` meets its contract: where there is room, the two stores are those of `added`.
use Rattle.tables.proofs.Adding.{put_room, put_none}
use Rattle.tables.proofs.put_record.Goals as goal

pub returns-then-used-s : goal.returns-then-used-s
returns-then-used-s c =
    put_room _ _ _ _ _ _ c.if-used-s.true c.put_words.ensures c.put.ensures

pub returns : goal.returns
returns c = put_none _ _ _ _ c.if-used-s.false
