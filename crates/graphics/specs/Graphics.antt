-- The graphics state: how it stands at the start, and with one part of it set anew (01, State).
use Rattle.std.specs.Prelude.{ℕ, Bool, false, pos}
use Rattle.formats.specs.Format.{no_format}
use Rattle.points.specs.Points.{pt}
use Rattle.points.specs.declared.Point.{Point}
use Rattle.graphics.specs.declared.Header.{Header}
use Rattle.graphics.specs.declared.Current.{Current}
use Rattle.graphics.specs.declared.Selected.{Selected}
use Rattle.graphics.specs.declared.Transform.{Transform}
use Rattle.graphics.specs.declared.Region.{Region}
use Rattle.graphics.specs.declared.Graphics.{Graphics}

unfoldable pub origin : Point
origin = pt (pos 0) (pos 0)

unfoldable pub unset : Current
unset = record { set = false; at = origin }

unfoldable pub no_aperture : Selected
no_aperture = record { set = false; number = 0; slot = 0; circle = false; rectangle = false; block = false; items = 0; height = 0 }

unfoldable pub no_region : Region
no_region = record { on = false; moved = false; contour = false; first = origin }

-- "At the start: point, aperture and mode unset; dark; no mirror; angle 0; scale 1"; in the old edition coordinates are absolute where
-- nothing else is said, and "G74 as the default" (02, [9])
unfoldable pub start : Bool → Graphics
start old = record {
  old = old;
  header = record { format = no_format; unit = 0; coded = 0 };
  incremental = false;
  point = unset;
  aperture = no_aperture;
  mode = 0;
  quadrants = false;
  transform = record { clear = false; mirror = record { x = false; y = false }; rotation = 0; scale = 1_000_000 };
  region = no_region;
}

-- a state by its parts
abbrev pub state : Bool → Header → Bool → Current → Selected → ℕ → Bool → Transform → Region → Graphics
state old h i p a m q t r =
    record { old = old; header = h; incremental = i; point = p; aperture = a; mode = m; quadrants = q; transform = t; region = r }

unfoldable pub with_header : Header → Graphics → Graphics
with_header v g = state g.old v g.incremental g.point g.aperture g.mode g.quadrants g.transform g.region

unfoldable pub with_notation : Bool → Graphics → Graphics
with_notation v g = state g.old g.header v g.point g.aperture g.mode g.quadrants g.transform g.region

unfoldable pub with_point : Current → Graphics → Graphics
with_point v g = state g.old g.header g.incremental v g.aperture g.mode g.quadrants g.transform g.region

unfoldable pub with_aperture : Selected → Graphics → Graphics
with_aperture v g = state g.old g.header g.incremental g.point v g.mode g.quadrants g.transform g.region

unfoldable pub with_mode : ℕ → Graphics → Graphics
with_mode v g = state g.old g.header g.incremental g.point g.aperture v g.quadrants g.transform g.region

unfoldable pub with_quadrants : Bool → Graphics → Graphics
with_quadrants v g = state g.old g.header g.incremental g.point g.aperture g.mode v g.transform g.region

unfoldable pub with_transform : Transform → Graphics → Graphics
with_transform v g = state g.old g.header g.incremental g.point g.aperture g.mode g.quadrants v g.region

unfoldable pub with_region : Region → Graphics → Graphics
with_region v g = state g.old g.header g.incremental g.point g.aperture g.mode g.quadrants g.transform v
