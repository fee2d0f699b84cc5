-- `summary_by_aperture::keep_row` meets its contract: the six words are `kept_words`.
use Rattle.summary_by_aperture.specs.Kept.{kept_words, row_words}
use Rattle.summary_by_aperture.proofs.keep_row.Goals as goal

pub returns : goal.returns
unfolding kept_words row_words
returns c = rw (c.row_words.ensures, c.flag_word-some.ensures, c.has_points.ensures) at c.put_words.ensures
