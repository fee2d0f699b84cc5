-- `stroke_steps::draw_edge` meets its contract: one edge more of the open contour is put.
use Rattle.operation_rules.proofs.Reached.{draw_reached, draw_near}
use Rattle.stroke_steps.proofs.Known.{known_mode}
use Rattle.stroke_steps.proofs.Drawn.{edge_asks, edge_drawn}
use Rattle.stroke_steps.proofs.draw_edge.Goals as goal

pub target-at-requires : goal.target-at-requires
target-at-requires c = draw_reached _ _ _ _ _ _ c.requires.may_draw.none

pub edge-t-requires : goal.edge-t-requires
edge-t-requires c =
    record {
      mode_bound = known_mode _ _ c.requires.may_draw.known;
      near = rw c.target-at.ensures (draw_near _ _ _ _ _ _ c.requires.may_draw.none);
    }

pub add_edge-requires : goal.add_edge-requires
add_edge-requires c =
    let asks = edge_asks _ _ c.args.place _ _ _ c.requires.may_draw c.requires.on_value in
    record { high_bound = asks.0; b_bound = asks.1 }

pub returns : goal.returns
returns c =
    edge_drawn _ _ _ _ _ _ c.requires.may_draw c.target-at.ensures c.drawing.ensures c.requires.on_value c.edge-t.ensures c.add_edge.ensures
