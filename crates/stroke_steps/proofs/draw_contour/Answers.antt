-- `stroke_steps::draw_contour` meets its contract: the contour is put, and then its first edge.
use Rattle.operation_rules.proofs.Reached.{draw_reached, draw_near}
use Rattle.stroke_steps.proofs.Known.{known_mode, known_items}
use Rattle.stroke_steps.proofs.Drawn.{draw_has_room, contour_asks, contour_drawn}
use Rattle.stroke_steps.proofs.draw_contour.Goals as goal

pub target-at-requires : goal.target-at-requires
target-at-requires c = draw_reached _ _ _ _ _ _ c.requires.may_draw.none

pub add_item-begun-requires : goal.add_item-begun-requires
add_item-begun-requires c =
    record {
      high_bound = draw_has_room _ _ c.args.place _ _ _ c.requires.may_draw;
      b_bound = known_items _ _ c.requires.may_draw.known;
    }

pub edge-t-requires : goal.edge-t-requires
edge-t-requires c =
    record {
      mode_bound = known_mode _ _ c.requires.may_draw.known;
      near = rw c.target-at.ensures (draw_near _ _ _ _ _ _ c.requires.may_draw.none);
    }

pub add_edge-requires : goal.add_edge-requires
add_edge-requires c =
    let asks = contour_asks _ _ _ _ _ _ c.requires.may_draw c.requires.region_value c.contour.ensures c.add_item-begun.ensures in
    record { high_bound = asks.0; b_bound = asks.1 }

pub returns : goal.returns
returns c =
    contour_drawn _ _ _ _ _ _ c.requires.may_draw c.target-at.ensures c.drawing.ensures c.requires.region_value c.contour.ensures c.add_item-begun.ensures c.edge-t.ensures c.add_edge.ensures
