-- `notes::place_at` meets its contract: the first word of a note is its place.
-- Assumes nothing.
use Rattle.notes.proofs.Notes.{place_word}
use mathlib.Core.Path.{◌∙◌}
use Rattle.notes.proofs.place_at.Goals as goal

pub returns : goal.returns
returns c = c.word_at.ensures ∙ place_word _ _
