-- `notes::note_at` meets its contract: the words from the note's first on are read by `note_in`.
-- Assumes nothing.
use Rattle.notes.specs.Notes.{note_width, note_in, note_of}
use Rattle.base.proofs.Lists.{rest_whole}
use mathlib.Core.Path.{ap, ◌∙◌}
use Prim.Native.Nat.{◌*◌}
use Rattle.notes.proofs.note_at.Goals as goal

pub returns : goal.returns
unfolding note_of
returns c = let A = c.args in c.note_in.ensures ∙ ap note_in (rest_whole A.s.now (A.i * note_width))
