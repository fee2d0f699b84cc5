-- `summary_by_aperture::row_of` meets its contract: where the rows of all blocks are kept, the walk of the top level is a pass over the sheet's items.
use Rattle.summary_by_aperture.proofs.Blocks.{whole_ready, whole_is}
use mathlib.Core.Path.{◌∙◌}
use Rattle.summary_by_aperture.proofs.row_of.Goals as goal

pub top_row-requires : goal.top_row-requires
top_row-requires c = rw c.top_of.ensures (whole_ready _ _ _ _ _ _ c.keep_blocks.ensures)

pub returns : goal.returns
returns c = (rw c.top_of.ensures at c.top_row.ensures ∙ whole_is _ _ _ _ _ _ c.keep_blocks.ensures, c.keep_blocks.ensures.ready)
