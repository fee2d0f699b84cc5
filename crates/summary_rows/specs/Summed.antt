-- The summary as a pass over items (02, [11]; decisions 410 to 412).
use Rattle.std.specs.Prelude.{Bool, cond, not, List, [], ◌∷◌, eqb, None, Option, Some}
use Rattle.base.specs.And.{◌and◌}
use Rattle.points.specs.declared.Point.{Point}
use Rattle.place.specs.declared.Item.{Item}
use Rattle.place.specs.Item.{has_start, has_end, is_oriented}
use Rattle.spans.specs.Spans.{rect_at}
use Rattle.summary_rows.specs.Rows.{row, no_row, joined, merged}
use Rattle.summary_rows.specs.declared.Row.{Row}
use Rattle.summary_rows.specs.declared.Asked.{Asked}
use Rattle.summary_rows.specs.declared.Asked.TheVariants.{Aperture, Regions}
use Rattle.spans.specs.declared.Rect.{Rect}

-- lines, arcs and flashes count for their aperture; contours and edges, "one row for all regions together"
unfoldable pub asks : Asked → Item → Bool
asks (Aperture n) t = is_oriented t.kind and eqb t.aperture n
asks Regions t = not (is_oriented t.kind)

-- "the .. start and end points": "points of a flash are its end alone, and a contour has none beside its edges'; an arc's bulge is not
-- counted", and no centre
unfoldable pub points_of : Item → List Point
points_of t = cond (has_end t.kind) (cond (has_start t.kind) (t.start ∷ t.end ∷ []) (t.end ∷ [])) []

-- "the least and greatest x and y" of points
unfoldable pub extent_of : List Point → Option Rect
extent_of [] = None
extent_of (p ∷ ps) = joined (Some (rect_at p)) (extent_of ps)

unfoldable pub item_row : Asked → Item → Row
item_row q t = cond (asks q t) (row 1 (extent_of (points_of t))) no_row

-- a pass over items
unfoldable pub row_of : Asked → List Item → Row
row_of q [] = no_row
row_of q (t ∷ ts) = merged (item_row q t) (row_of q ts)
