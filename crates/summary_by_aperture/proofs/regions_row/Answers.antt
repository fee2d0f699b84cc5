-- `summary_by_aperture::regions_row` meets its contract: the blocks of a sheet are listed, and the row is that of all its items.
use Rattle.sheet.proofs.Sound.{rooms}
use Rattle.summary_by_aperture.proofs.Answers.{fits_same}
use Rattle.summary_by_aperture.proofs.regions_row.Goals as goal

pub list_blocks-m-requires : goal.list_blocks-m-requires
list_blocks-m-requires c =
    let w = c.requires in let r = (rooms _ _ _ w.ok).1 in rw c.index.ensures (r, w.room)

pub row_of-requires : goal.row_of-requires
row_of-requires c =
    record { fits = fits_same _ _ _ _ _ c.list_blocks-m.auto.s c.requires; listed = rw c.index.ensures at c.list_blocks-m.ensures }

pub returns : goal.returns
returns c = c.row_of.ensures.0
