-- What each command changes of the graphics state (01, State; decisions 81 to 89).
use Rattle.std.specs.Prelude.{ℕ, ◌^◌, Bool, true, false, cond, not, eqb, ℤ, nat_abs, ◌+ℤ◌, None, Option, Some}
use Rattle.base.specs.And.{◌and◌}
use Rattle.base.specs.Choose.{pick}
use Rattle.formats.specs.declared.Format.{Format}
use Rattle.points.specs.Points.{pt, Within}
use Rattle.points.specs.declared.Point.{Point}
use Rattle.command.specs.declared.Setting.{Setting}
use Rattle.command.specs.declared.Setting.TheVariants as setting
use Rattle.command.specs.declared.Operation.{Operation}
use Rattle.command.specs.declared.Operation.TheVariants as operation
use Rattle.command.specs.declared.Command.{Command}
use Rattle.command.specs.declared.Command.TheVariants.{Broken, Note, End, Set, Operate, Coded, Select, Define, Contain, Attribute}
use Rattle.graphics.specs.Graphics.{unset, origin, no_region, with_header, with_notation, with_point, with_mode, with_quadrants, with_transform, with_region}
use Rattle.graphics.specs.Orientation.{angle_of}
use Rattle.graphics.specs.declared.Header.{Header}
use Rattle.graphics.specs.declared.Mirror.{Mirror}
use Rattle.graphics.specs.declared.Transform.{Transform}
use Rattle.graphics.specs.declared.Region.{Region}
use Rattle.graphics.specs.declared.Graphics.{Graphics}

-- "a missing X or Y keeps the current one"; in incremental notation a written one is added to it
unfoldable pub along : Bool → Option ℤ → ℤ → ℤ
along incremental None old = old
along incremental (Some v) old = cond incremental (old +ℤ v) v

-- the point that an operation goes to; "incremental coordinates count from (0, 0) while the point is unset" (02, [9]), where it lies then
unfoldable pub target : Graphics → Option ℤ → Option ℤ → Point
target g x y = pt (along g.incremental x g.point.at.x) (along g.incremental y g.point.at.y)

unfoldable pub going_to : Point → Graphics → Graphics
going_to p = with_point (record { set = true; at = p })

-- a region in which no contour has begun, nor a D02 stood
unfoldable pub empty_region : Region
empty_region = record { on = true; moved = false; contour = false; first = origin }

-- "The first D01 starts a contour at the current point": whether a D01 here is the first of a contour
unfoldable pub starts_contour : Region → Bool
starts_contour r = r.on and not r.contour

unfoldable pub drawing : Region → Point → Region
drawing r p = record { on = r.on; moved = r.moved; contour = r.on; first = cond (starts_contour r) p r.first }

-- "D02 or G37 ends it"; in a region a D02 is the move that the next contour begins with (02, [7])
unfoldable pub ended : Region → Region
ended r = record { on = r.on; moved = r.on; contour = false; first = origin }

-- the parts of FS, MO, G70 and G71, and of LP, LM, LR and LS
unfoldable pub with_format : Format → Header → Header
with_format f h = record { format = f; unit = h.unit; coded = h.coded }

unfoldable pub with_unit : ℕ → Header → Header
with_unit u h = record { format = h.format; unit = u; coded = h.coded }

-- "The first G70 or G71 sets the unit where no MO does"
unfoldable pub with_coded : ℕ → Header → Header
with_coded u h = record { format = h.format; unit = h.unit; coded = pick (eqb h.coded 0) u h.coded }

unfoldable pub with_clear : Bool → Transform → Transform
with_clear c t = record { clear = c; mirror = t.mirror; rotation = t.rotation; scale = t.scale }

unfoldable pub with_mirror : Mirror → Transform → Transform
with_mirror m t = record { clear = t.clear; mirror = m; rotation = t.rotation; scale = t.scale }

unfoldable pub with_rotation : ℕ → Transform → Transform
with_rotation a t = record { clear = t.clear; mirror = t.mirror; rotation = a; scale = t.scale }

unfoldable pub with_scale : ℕ → Transform → Transform
with_scale s t = record { clear = t.clear; mirror = t.mirror; rotation = t.rotation; scale = s }

-- a setting
unfoldable pub after_setting : Setting → Graphics → Graphics
-- FS's A or I replaces a G90 or G91 before it, and they replace it after it (decision 515)
after_setting (setting.Format f) g = with_notation f.incremental (with_header (with_format f g.header) g)
after_setting setting.Absolute g = with_notation false g
after_setting setting.Incremental g = with_notation true g
after_setting setting.Millimetres g = with_header (with_unit 1 g.header) g
after_setting setting.Inches g = with_header (with_unit 2 g.header) g
after_setting setting.CodedMillimetres g = with_header (with_coded 1 g.header) g
after_setting setting.CodedInches g = with_header (with_coded 2 g.header) g
after_setting setting.Linear g = with_mode 1 g
after_setting setting.Clockwise g = with_mode 2 g
after_setting setting.Counterclockwise g = with_mode 3 g
after_setting setting.SingleQuadrant g = with_quadrants false g
after_setting setting.MultiQuadrant g = with_quadrants true g
after_setting setting.Dark g = with_transform (with_clear false g.transform) g
after_setting setting.Clear g = with_transform (with_clear true g.transform) g
after_setting (setting.Mirror x y) g = with_transform (with_mirror (record { x = x; y = y }) g.transform) g
after_setting (setting.Rotation a rounded) g = with_transform (with_rotation (angle_of a.millionths) g.transform) g
after_setting (setting.Scale a rounded) g = with_transform (with_scale (nat_abs a.millionths) g.transform) g
after_setting setting.RegionStart g = with_region empty_region g
after_setting setting.RegionEnd g = with_region no_region g
-- "M00 and M01 without effect"
after_setting setting.Halt g = g

-- the mode of a setting that changes the mode alone, 0 for any other
unfoldable pub mode_of : Setting → ℕ
mode_of (setting.Format f) = 0
mode_of setting.Absolute = 0
mode_of setting.Incremental = 0
mode_of setting.Millimetres = 0
mode_of setting.Inches = 0
mode_of setting.CodedMillimetres = 0
mode_of setting.CodedInches = 0
mode_of setting.Linear = 1
mode_of setting.Clockwise = 2
mode_of setting.Counterclockwise = 3
mode_of setting.SingleQuadrant = 0
mode_of setting.MultiQuadrant = 0
mode_of setting.Dark = 0
mode_of setting.Clear = 0
mode_of (setting.Mirror x y) = 0
mode_of (setting.Rotation a rounded) = 0
mode_of (setting.Scale a rounded) = 0
mode_of setting.RegionStart = 0
mode_of setting.RegionEnd = 0
mode_of setting.Halt = 0

-- D01, D02 and D03
unfoldable pub after_operation : Operation → Graphics → Graphics
after_operation (operation.Draw x y o) g = going_to (target g x y) (with_region (drawing g.region g.point.at) g)
after_operation (operation.Move x y) g = going_to (target g x y) (with_region (ended g.region) g)
after_operation (operation.Flash x y) g = going_to (target g x y) g

-- where an operation goes to
unfoldable pub goal : Operation → Graphics → Point
goal (operation.Draw x y o) g = target g x y
goal (operation.Move x y) g = target g x y
goal (operation.Flash x y) g = target g x y

-- What stands after a command that is accepted; Dn sets the aperture, by `with_aperture`.
unfoldable pub after : Command → Graphics → Graphics
after (Set s) g = after_setting s g
after (Operate o) g = after_operation o g
-- "The code takes effect first, then the operation in the state after it" (decision 516)
after (Coded code o) g = after_operation o (after_setting code g)
-- "After AB or SR opens or closes the point is unset (house)"
after (Contain b) g = with_point unset g
-- the others change nothing of it
after (Broken flaw) g = g
after Note g = g
after End g = g
after (Select n) g = g
after (Define d) g = g
after (Attribute d) g = g

-- the point that a command goes to is less than 10^12 millionths in size, as that of one that is accepted (5)
unfoldable pub Reached : Command → Graphics → Type 0
Reached (Operate o) g = Within (10 ^ 12) (goal o g)
Reached (Coded code o) g = Within (10 ^ 12) (goal o (after_setting code g))
Reached (Set s) g = Unit
Reached (Contain b) g = Unit
Reached (Broken flaw) g = Unit
Reached Note g = Unit
Reached End g = Unit
Reached (Select n) g = Unit
Reached (Define d) g = Unit
Reached (Attribute d) g = Unit
