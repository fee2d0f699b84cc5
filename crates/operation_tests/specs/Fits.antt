-- Whether an operation fits the state (01, State: numbers 6 and 11 to 15; 02, [7]: 29; 02, [9]: 5).
use Rattle.std.specs.Prelude.{◌%◌, Bool, true, false, not, eqb, leb, None, Option, Some, ℤ}
use Rattle.std.specs.Bool.{xor}
use Rattle.base.specs.And.{◌and◌}
use Rattle.base.specs.Or.{◌or◌}
use Rattle.points.specs.Points.{same_point}
use Rattle.points.specs.declared.Point.{Point}
use Rattle.place.specs.Placing.{quarter_turn}
use Rattle.graphics.specs.Graphics.{origin}
use Rattle.graphics.specs.Orientation.{orientation}
use Rattle.graphics.specs.declared.Graphics.{Graphics}
use Rattle.changes.specs.After.{starts_contour}
use Rattle.operation_tests.specs.Far.{is_formatted, is_far, goes_far}
use Rattle.graphics.specs.Level.{block}
use Rattle.graphics.specs.declared.Level.{Level}
use Rattle.command.specs.declared.Offset.{Offset}

unfoldable pub is_missing : Option ℤ → Bool
is_missing None = true
is_missing (Some v) = false

-- 6: "FS or MO .. missing at an operation"; "The first G70 or G71 sets the unit where no MO does"
unfoldable pub unready : Graphics → Bool
unready g = not (is_formatted g) or (eqb g.header.unit 0 and eqb g.header.coded 0)

-- 11: "an unset point needed for a missing coordinate"
unfoldable pub placeless : Graphics → Option ℤ → Option ℤ → Bool
placeless g x y = not g.point.set and (is_missing x or is_missing y)

unfoldable pub circular : Graphics → Bool
circular g = leb 2 g.mode

-- what draws here: a C without hole; in the old edition, for lines, an R without one (decision 518)
unfoldable pub has_brush : Graphics → Bool
has_brush g = g.aperture.set and (g.aperture.circle or (g.old and (g.aperture.rectangle and not (circular g))))

-- "aperture unset at D01 .. outside a region, D01 outside a region with anything but a C aperture without hole"
unfoldable pub brushless : Graphics → Bool
brushless g = not g.region.on and not (has_brush g)

unfoldable pub has_offset : Option Offset → Bool
has_offset None = false
has_offset (Some o) = true

unfoldable pub is_signed : Option Offset → Bool
is_signed None = false
is_signed (Some o) = o.signed

-- "circular D01 before any G75"; in the old edition "G74 as the default": "In single quadrant mode I and J are unsigned (a sign is 11)"
unfoldable pub quadrantless : Graphics → Option Offset → Bool
quadrantless g o = not g.quadrants and (not g.old or is_signed o)

-- "I and J present in linear mode or absent in circular mode"
unfoldable pub arcless : Graphics → Option Offset → Bool
arcless g o = xor (circular g) (has_offset o) or (circular g and quadrantless g o)

-- 11 at D01, which starts at the current point
unfoldable pub draw_misfits : Graphics → Option Offset → Bool
draw_misfits g o = not g.point.set or eqb g.mode 0 or brushless g or arcless g o

-- 11 at D03
unfoldable pub flash_misfits : Graphics → Option ℤ → Option ℤ → Bool
flash_misfits g x y = placeless g x y or not g.aperture.set

-- 29 (02, [7]): "Inside a region, the first D01 needs a D02 since that G36"; "29 is not given" in the old edition
unfoldable pub moveless : Graphics → Bool
moveless g = not g.old and (starts_contour g.region and not g.region.moved)

-- I and J
unfoldable pub offset_of : Option Offset → Point
offset_of None = origin
offset_of (Some o) = o.offset

-- 5 at D01, whose I and J are a point too
unfoldable pub draws_far : Graphics → Option ℤ → Option ℤ → Option Offset → Bool
draws_far g x y o = goes_far g x y or (is_formatted g and is_far (offset_of o))

-- 13: "its last point must equal its first"
unfoldable pub unclosed : Graphics → Bool
unclosed g = g.region.contour and not (same_point g.point.at g.region.first)

-- 14: a block at a scale other than 1 or an angle not a multiple of 90 degrees
unfoldable pub askew : Graphics → Bool
askew g =
    g.aperture.block
    and (not (eqb g.transform.scale 1_000_000) or not (eqb ((orientation g.transform).angle % quarter_turn) 0))

-- 15: a flash that makes the height of the block it stands in 9
unfoldable pub too_tall : Graphics → Level → Bool
too_tall g l = g.aperture.block and (eqb l.inside block and leb 8 g.aperture.height)
