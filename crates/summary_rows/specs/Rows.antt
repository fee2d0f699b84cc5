-- A row of the summary: how many items, and from where to where their points lie; rows put together, moved and copied.
use Rattle.std.specs.Prelude.{ℕ, ◌+◌, ◌-◌, ◌*◌, ◌/◌, ◌≤◌, ◌^◌, None, Option, Some}
use Rattle.place.specs.declared.Pose.{Pose}
use Rattle.place.specs.declared.Repeat.{Repeat}
use Rattle.place.specs.Placing.{quarter_turn}
use Rattle.spans.specs.Spans.{join_rect, flip_rect, turn_rect, shift_rect, stretch_rect, RectWithin}
use Rattle.spans.specs.declared.Rect.{Rect}
use Rattle.summary_rows.specs.declared.Row.{Row}

abbrev pub row : ℕ → Option Rect → Row
row count extent = record { count = count; extent = extent }

-- no item, no point
unfoldable pub no_row : Row
no_row = row 0 None

unfoldable pub joined : Option Rect → Option Rect → Option Rect
joined None x = x
joined (Some b) None = Some b
joined (Some b) (Some c) = Some (join_rect b c)

unfoldable pub merged : Row → Row → Row
merged r s = row (r.count + s.count) (joined r.extent s.extent)

-- the extent of points that the pose m places, as `moved` has it of one
unfoldable pub moved_rect : Pose → Rect → Rect
moved_rect m b = shift_rect (turn_rect (m.angle / quarter_turn) (flip_rect m.flip b)) m.at

unfoldable pub moved_extent : Pose → Option Rect → Option Rect
moved_extent m None = None
moved_extent m (Some b) = Some (moved_rect m b)

unfoldable pub moved_row : Pose → Row → Row
moved_row m r = row r.count (moved_extent m r.extent)

-- the extent of all copies: the last lies (nx - 1) steps across and (ny - 1) up
unfoldable pub copied_extent : Repeat → Option Rect → Option Rect
copied_extent s None = None
copied_extent s (Some b) = Some (stretch_rect b ((s.nx - 1) * s.dx) ((s.ny - 1) * s.dy))

unfoldable pub copied_row : Repeat → Row → Row
copied_row s r = row (s.nx * (s.ny * r.count)) (copied_extent s r.extent)

-- an extent whose coordinates are at most n in size
pub data ExtentWithin (n : ℕ) : Option Rect → Type 0 where
  nothing_in : ExtentWithin n None
  over_in : {b : Rect} → RectWithin n b → ExtentWithin n (Some b)

-- copies of which there are some, and whose last is not too far
pub record Steps (s : Repeat) : Type 0 where
  pub nx_low : 1 ≤ s.nx
  pub ny_low : 1 ≤ s.ny
  pub across_in : (s.nx - 1) * s.dx ≤ 10 ^ 16
  pub up_in : (s.ny - 1) * s.dy ≤ 10 ^ 16
