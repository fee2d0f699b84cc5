-- `summary_by_aperture::kept_row` meets its contract: the words are read as `row_at` has them.
use Rattle.summary_by_aperture.specs.Kept.{row_at}
use Rattle.summary_by_aperture.proofs.kept_row.Goals as goal

pub returns : goal.returns
unfolding row_at
returns c = cc
