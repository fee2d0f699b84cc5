-- `stroke_steps::draw` meets its contract: the first rule that is broken decides, and where none is, what the D01 draws is put.
use mathlib.Core.Path.{refl, sym, ◌∙◌}
use Rattle.faults.proofs.Rules.{broken, kept}
use Rattle.stroke_steps.proofs.Known.{known_fits}
use Rattle.stroke_steps.proofs.Drawn.{draw_refused, may_draw, draw_goes}
use Rattle.stroke_steps.proofs.draw.Goals as goal

pub entries_left-left-requires : goal.entries_left-left-requires
entries_left-left-requires c = known_fits _ _ c.requires

pub returns-in-Err : goal.returns-in-Err
returns-in-Err c = (refl, draw_refused _ _ _ _ _ _ c.level_of.ensures c.entries_left-left.ensures c.draw_fault.ensures _ _ (broken c.in-Err.is))

pub draw_contour-requires : goal.draw_contour-requires
draw_contour-requires c =
    record {
      may_draw = may_draw _ _ c.args.place _ _ _ c.level_of.ensures c.entries_left-left.ensures c.draw_fault.ensures c.requires (kept c.in_default.is);
      region_value = sym c.starts_contour.ensures ∙ c.if-starts_contour.true;
    }

pub returns-then-starts_contour : goal.returns-then-starts_contour
returns-then-starts_contour c =
    (c.draw_contour.auto.e, draw_goes _ _ _ _ _ _ c.level_of.ensures c.entries_left-left.ensures c.draw_fault.ensures _ _ (kept c.in_default.is) c.draw_contour.ensures)

pub draw_edge-requires : goal.draw_edge-requires
draw_edge-requires c =
    record {
      may_draw = may_draw _ _ c.args.place _ _ _ c.level_of.ensures c.entries_left-left.ensures c.draw_fault.ensures c.requires (kept c.in_default.is);
      on_value = (c.if-g.true, sym c.starts_contour.ensures ∙ c.if-starts_contour.false);
    }

pub returns-then-g : goal.returns-then-g
returns-then-g c =
    (c.draw_edge.auto.e, draw_goes _ _ _ _ _ _ c.level_of.ensures c.entries_left-left.ensures c.draw_fault.ensures _ _ (kept c.in_default.is) c.draw_edge.ensures)

pub draw_item-requires : goal.draw_item-requires
draw_item-requires c =
    record {
      may_draw = may_draw _ _ c.args.place _ _ _ c.level_of.ensures c.entries_left-left.ensures c.draw_fault.ensures c.requires (kept c.in_default.is);
      on_value = c.if-g.false;
    }

pub returns : goal.returns
returns c =
    (c.draw_item.auto.e, draw_goes _ _ _ _ _ _ c.level_of.ensures c.entries_left-left.ensures c.draw_fault.ensures _ _ (kept c.in_default.is) c.draw_item.ensures)
