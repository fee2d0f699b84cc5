-- Where a contour begins, among commands that are judged by 1 to 4, 30 and 18 alone (02 [3]: "a contour's first D01"; decisions 318 and 512).
use Rattle.std.specs.Prelude.{Bool, not}
use Rattle.base.specs.And.{◌and◌}
use Rattle.base.specs.Or.{◌or◌}
use Rattle.outlines.specs.declared.Outline.{Outline}
use Rattle.outlines.specs.declared.Region.{Region}

-- after a command: whether a region is open, and whether a D01 came since the last G36 or D02. The code before an operation takes effect first
unfoldable pub region_after : Region → Outline → Region
region_after r o =
    record {
      inside = o.opens or (not o.closes and r.inside);
      drawn = o.draws or (not (o.opens or o.moves) and r.drawn);
    }

-- a command is a contour's first D01, r being what stands before it
unfoldable pub begins_contour : Region → Outline → Bool
begins_contour r o = o.draws and (o.opens or (not o.closes and (r.inside and not r.drawn)))
