-- `notes::put_note` meets its contract: the test of the room picks the case.
-- Assumes nothing.
use Rattle.notes.specs.Notes.{with_note}
use borrow.Author.Tests.{lt-ltb, le-ltb}
use Rattle.notes.proofs.put_note.Goals as goal

pub returns-then-i-s : goal.returns-then-i-s
unfolding with_note
returns-then-i-s c = rw (lt-ltb _ _ c.if-i-s.true) c.put_words.ensures

pub returns-else-i-s : goal.returns-else-i-s
unfolding with_note
returns-else-i-s c = rw (le-ltb _ _ c.if-i-s.false)
