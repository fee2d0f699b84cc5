-- `notes::put_words` meets its contract: the thirteen words are `note_words`.
-- Assumes nothing.
use Rattle.notes.specs.Notes.{note_words}
use Rattle.notes.proofs.put_words.Goals as goal

pub returns : goal.returns
unfolding note_words
returns c = c.put_words.ensures
