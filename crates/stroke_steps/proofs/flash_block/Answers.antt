-- `stroke_steps::flash_block` meets its contract: the flash of the block is put, and what it stands in is raised.
use Rattle.operation_rules.proofs.Reached.{flash_reached}
use Rattle.stroke_steps.proofs.Flashed.{use_asks, block_flashed}
use Rattle.stroke_steps.proofs.flash_block.Goals as goal

pub target-at-requires : goal.target-at-requires
target-at-requires c = flash_reached _ _ _ _ _ c.requires.may_flash.none

pub add_use-requires : goal.add_use-requires
add_use-requires c =
    let asks = use_asks _ _ c.args.place _ _ c.requires.may_flash c.requires.block_value in
    record { high_bound = asks.0; b_bound = asks.1 }

pub returns : goal.returns
returns c =
    block_flashed _ _ _ _ _ c.requires.may_flash c.target-at.ensures c.requires.block_value c.pose-m.ensures c.add_use.ensures
