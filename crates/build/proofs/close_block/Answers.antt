-- `build::close_block` meets its contract: what settled, the words of the aperture record, and the state around it.
use mathlib.Core.Path.{refl}
use Rattle.build.proofs.close_block.Goals as goal

pub put_block-requires : goal.put_block-requires
put_block-requires c =
    rw (c.index.ensures, c.opener_of-o.ensures) c.requires.1

pub returns : goal.returns
returns c =
    rw (c.index-2.ensures, c.opener_of-o.ensures) (record { leaves = rw (c.block_left.ensures, c.opener_of-o.ensures) at c.settle.ensures; stores = rw (c.index.ensures, c.opener_of-o.ensures) at c.put_block.ensures; next = refl })
