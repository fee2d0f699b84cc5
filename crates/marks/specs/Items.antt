-- The items that D01 and D03 draw (01, Items; decisions 93 to 95). No flash has brought them yet: their own place is the outer one too
-- (02, [6]).
use Rattle.std.specs.Prelude.{ℕ, ◌+◌, false, Option}
use Rattle.points.specs.declared.Point.{Point}
use Rattle.place.specs.Kind as kind
use Rattle.place.specs.declared.Item.{Item}
use Rattle.place.specs.declared.Pose.{Pose}
use Rattle.graphics.specs.Graphics.{origin}
use Rattle.graphics.specs.Orientation.{orientation}
use Rattle.graphics.specs.declared.Graphics.{Graphics}
use Rattle.arcs.specs.Arcs.{kind_drawn, arc_centre}
use Rattle.command.specs.declared.Offset.{Offset}

-- a D01 outside a region
unfoldable pub drawn : Graphics → Point → Option Offset → ℕ → Item
drawn g end o place = record {
  kind = kind_drawn g end;
  aperture = g.aperture.number;
  clear = g.transform.clear;
  flip = (orientation g.transform).flip;
  angle = (orientation g.transform).angle;
  scale = g.transform.scale;
  start = g.point.at;
  end = end;
  centre = arc_centre g end o;
  count = 0;
  place = place;
  outer = place;
}

-- "contours and edges have angle 0, scale 1, no flip", and aperture 0; edges are numbered as the kinds of D01, after the contour
unfoldable pub edge : Graphics → Point → Option Offset → ℕ → Item
edge g end o place = record {
  kind = kind.contour + kind_drawn g end;
  aperture = 0;
  clear = g.transform.clear;
  flip = false;
  angle = 0;
  scale = 1_000_000;
  start = g.point.at;
  end = end;
  centre = arc_centre g end o;
  count = 0;
  place = place;
  outer = place;
}

-- "a contour has its start point as start"
unfoldable pub contour : Graphics → ℕ → Item
contour g place = record {
  kind = kind.contour;
  aperture = 0;
  clear = g.transform.clear;
  flip = false;
  angle = 0;
  scale = 1_000_000;
  start = g.point.at;
  end = origin;
  centre = origin;
  count = 0;
  place = place;
  outer = place;
}

-- "A flash has its point as end"
unfoldable pub flashed : Graphics → Point → ℕ → Item
flashed g at place = record {
  kind = kind.flash;
  aperture = g.aperture.number;
  clear = g.transform.clear;
  flip = (orientation g.transform).flip;
  angle = (orientation g.transform).angle;
  scale = g.transform.scale;
  start = origin;
  end = at;
  centre = origin;
  count = 0;
  place = place;
  outer = place;
}

-- how a block is flashed
unfoldable pub pose : Graphics → Point → Pose
pose g at = record {
  flip = (orientation g.transform).flip;
  angle = (orientation g.transform).angle;
  clear = g.transform.clear;
  at = at;
}
