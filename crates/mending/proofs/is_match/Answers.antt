-- `mending::is_match` meets its contract: the text is compared where the command opens so.
-- Assumes nothing.
use Rattle.mending.proofs.Texts.{match_made, match_missed}
use Rattle.mending.proofs.is_match.Goals as goal

pub returns-then-begins : goal.returns-then-begins
returns-then-begins c =
    match_made _ _ _ c.begins.ensures c.if-begins.true c.text_end.ensures c.part.ensures c.part-then-begins.ensures c.is.ensures

pub returns : goal.returns
returns c = match_missed _ _ _ c.begins.ensures c.if-begins.false
