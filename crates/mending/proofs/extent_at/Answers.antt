-- `mending::extent_at` meets its contract: the places that `skip` and `find` answer are those of the cut.
-- Assumes nothing.
use Rattle.mending.proofs.Next.{rest_found, extended_found, extended_open, word_found, word_open}
use Rattle.mending.proofs.extent_at.Goals as goal

pub returns-then-place-file : goal.returns-then-place-file
returns-then-place-file c = rest_found _ _ c.past_breaks-place.ensures c.if-place-file.true

pub returns-then-close-file : goal.returns-then-close-file
returns-then-close-file c = extended_open _ _ c.past_breaks-place.ensures c.if-place-file.false c.if-file-place-eq37.true c.find-close.ensures c.if-close-file.true

pub returns-then-file-place-eq37 : goal.returns-then-file-place-eq37
returns-then-file-place-eq37 c = extended_found _ _ c.past_breaks-place.ensures c.if-place-file.false c.if-file-place-eq37.true c.find-close.ensures c.if-close-file.false

pub returns-then-close-file-2 : goal.returns-then-close-file-2
returns-then-close-file-2 c = word_open _ _ c.past_breaks-place.ensures c.if-place-file.false c.if-file-place-eq37.false c.find-close-2.ensures c.if-close-file-2.true

pub returns : goal.returns
returns c = word_found _ _ c.past_breaks-place.ensures c.if-place-file.false c.if-file-place-eq37.false c.find-close-2.ensures c.if-close-file-2.false
