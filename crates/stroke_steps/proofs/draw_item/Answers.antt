-- `stroke_steps::draw_item` meets its contract: one item is put.
use Rattle.operation_rules.proofs.Reached.{draw_reached, draw_near}
use Rattle.stroke_steps.proofs.Known.{known_items}
use Rattle.stroke_steps.proofs.Drawn.{draw_has_room, item_drawn}
use Rattle.stroke_steps.proofs.draw_item.Goals as goal

pub target-at-requires : goal.target-at-requires
target-at-requires c = draw_reached _ _ _ _ _ _ c.requires.may_draw.none

pub drawn-t-requires : goal.drawn-t-requires
drawn-t-requires c = rw c.target-at.ensures (draw_near _ _ _ _ _ _ c.requires.may_draw.none)

pub add_item-requires : goal.add_item-requires
add_item-requires c =
    record {
      high_bound = draw_has_room _ _ c.args.place _ _ _ c.requires.may_draw;
      b_bound = known_items _ _ c.requires.may_draw.known;
    }

pub returns : goal.returns
returns c =
    item_drawn _ _ _ _ _ _ c.requires.may_draw c.target-at.ensures c.drawing.ensures c.requires.on_value c.drawn-t.ensures c.add_item.ensures
