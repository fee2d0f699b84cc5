-- `stroke_steps::flash_item` meets its contract: one item is put.
use Rattle.operation_rules.proofs.Reached.{flash_reached}
use Rattle.stroke_steps.proofs.Known.{known_items}
use Rattle.stroke_steps.proofs.Flashed.{flash_has_room, item_flashed}
use Rattle.stroke_steps.proofs.flash_item.Goals as goal

pub target-at-requires : goal.target-at-requires
target-at-requires c = flash_reached _ _ _ _ _ c.requires.may_flash.none

pub add_item-requires : goal.add_item-requires
add_item-requires c =
    record {
      high_bound = flash_has_room _ _ c.args.place _ _ c.requires.may_flash;
      b_bound = known_items _ _ c.requires.may_flash.known;
    }

pub returns : goal.returns
returns c =
    item_flashed _ _ _ _ _ c.requires.may_flash c.target-at.ensures c.requires.block_value c.flashed-t.ensures c.add_item.ensures
