-- `notes::span_at` meets its contract: the two words are its ends.
-- Assumes nothing.
use Rattle.notes.proofs.span_at.Goals as goal

pub returns : goal.returns
returns c = λ i. record { from = c.word_at.ensures i; to = c.word_at-2.ensures i }
