-- `summary_by_aperture::keep_block` meets its contract: the row of the block's entries, kept.
use Rattle.summary_by_aperture.specs.Blocks.{with_block}
use Rattle.summary_by_aperture.proofs.keep_block.Goals as goal

pub run_row-r-requires : goal.run_row-r-requires
run_row-r-requires c = rw c.block_at.ensures c.requires.2

pub returns : goal.returns
unfolding with_block
returns c = rw (c.run_row-r.ensures, c.block_at.ensures) at c.keep_row.ensures
