-- `notes::note_in` meets its contract: each word read is a field of `note_in`, and two words a part of the file.
-- Assumes nothing.
use Rattle.notes.specs.Notes.{note_in}
use Rattle.notes.proofs.note_in.Goals as goal

pub returns : goal.returns
unfolding note_in
returns c =
    λ i. record {
      place = c.word_at.ensures i;
      component = c.word_at-2.ensures i;
      pin = c.word_at-3.ensures i;
      number = c.span_at.ensures i;
      rotation = c.span_at-2.ensures i;
      value = c.span_at-3.ensures i;
      footprint = c.span_at-4.ensures i;
      mount = c.span_at-5.ensures i;
    }
