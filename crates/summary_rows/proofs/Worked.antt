-- The rows of document 01's listing P10, by computation: four items of aperture 10, none of block 11, none of a region.
-- Assumes nothing.
use Rattle.std.specs.Prelude.{Some}
use mathlib.Core.Path.{◌≡◌, refl}
use mathlib.Core.Bool.{xor}
use lib.IntN.{pos}
use Rattle.base.specs.And.{◌and◌}
use Rattle.base.specs.Run.{run}
use Rattle.points.specs.Points.{shift, flipped, turned}
use Rattle.place.specs.Item.{has_start, has_end, is_arc, is_oriented}
use Rattle.place.specs.Placing.{moved, moved_if, turned_angle, swapped, placed}
use Rattle.place.specs.Outer.{brought, flashed_by}
use Rattle.place.specs.Copies.{step, copies}
use Rattle.place.specs.Mark.{edges, with_count, parts_of, put, closed, marked, written, parts_from, plain}
use Rattle.place.specs.Parts.{◌then◌, items_in}
use Rattle.place.proofs.Worked.{item, marks}
use Rattle.spans.specs.Spans.{least, greatest, span, rect, span_at, join_span, rect_at, join_rect}
use Rattle.summary_rows.specs.Rows.{row, no_row, joined, merged}
use Rattle.summary_rows.specs.Summed.{asks, points_of, extent_of, item_row, row_of}
use Rattle.summary_rows.specs.declared.Asked.TheVariants.{Aperture, Regions}

p10_aperture : row_of (Aperture 10) (plain marks)
    ≡ row 4 (Some (rect (span (pos 8_000_000) (pos 3_010_000_000)) (span (pos 5_000_000) (pos 6_000_000))))
unfolding marks item plain parts_from items_in written marked closed put parts_of ◌then◌ with_count edges copies step run flashed_by brought placed moved moved_if turned_angle swapped has_start has_end is_arc is_oriented shift flipped turned xor row_of item_row asks points_of extent_of merged joined no_row join_rect join_span rect_at span_at least greatest ◌and◌
p10_aperture = refl

p10_block : row_of (Aperture 11) (plain marks) ≡ no_row
unfolding marks item plain parts_from items_in written marked closed put parts_of ◌then◌ with_count edges copies step run flashed_by brought placed moved moved_if turned_angle swapped has_start has_end is_arc is_oriented shift flipped turned xor row_of item_row asks points_of extent_of merged joined no_row join_rect join_span rect_at span_at least greatest ◌and◌
p10_block = refl

p10_regions : row_of Regions (plain marks) ≡ no_row
unfolding marks item plain parts_from items_in written marked closed put parts_of ◌then◌ with_count edges copies step run flashed_by brought placed moved moved_if turned_angle swapped has_start has_end is_arc is_oriented shift flipped turned xor row_of item_row asks points_of extent_of merged joined no_row join_rect join_span rect_at span_at least greatest ◌and◌
p10_regions = refl
