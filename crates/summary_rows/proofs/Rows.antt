-- Rows: merging in any grouping, a row moved, the rows of copies merged one after the other, and how far rows reach.
-- Assumes nothing.
use Rattle.std.specs.Prelude.{None, Option, Some}
use Prim.Native.Nat.{ℕ, ◌+◌, ◌-◌, ◌*◌, ◌/◌, ◌≤◌}
use mathlib.Core.Path.{◌≡◌, refl, ap, subst, ◌∙◌}
use native.Mathlib.Nat.{zero-add, add-zero, add_assoc}
use Rattle.points.specs.declared.Point.{Point}
use Rattle.place.specs.declared.Pose.{Pose}
use Rattle.place.specs.declared.Repeat.{Repeat}
use Rattle.place.specs.Placing.{quarter_turn, moved, PoseWithin}
use Rattle.points.specs.Points.{flipped, turned}
use Rattle.spans.specs.Spans.{rect_at, join_rect, flip_rect, RectWithin}
use Rattle.summary_rows.specs.Rows.{row, no_row, joined, merged, moved_rect, moved_extent, moved_row, copied_extent, ExtentWithin, nothing_in, over_in}
use Rattle.spans.specs.declared.Rect.{Rect}
use Rattle.summary_rows.specs.declared.Row.{Row}
use Rattle.spans.proofs.Spans.{join_rect_assoc, flip_rect_join, turn_rect_join, shift_rect_join, rect_at_flipped, rect_at_turned, rect_at_shift, rect_within, join_rect_within, flip_rect_within, turn_rect_within, shift_rect_within, stretch_rect_within}

-- ---- merging

pub joined_none : (x : Option Rect) → joined x None ≡ x
unfolding joined
joined_none None = refl
joined_none (Some b) = refl

pub joined_assoc : (x y z : Option Rect) → joined (joined x y) z ≡ joined x (joined y z)
unfolding joined
joined_assoc None y z = refl
joined_assoc (Some b) None z = refl
joined_assoc (Some b) (Some c) None = refl
joined_assoc (Some b) (Some c) (Some d) = ap Some (join_rect_assoc b c d)

pub none_merged : (r : Row) → merged no_row r ≡ r
unfolding merged no_row joined
none_merged r = λ i. row (zero-add r.count i) r.extent

pub merged_none : (r : Row) → merged r no_row ≡ r
unfolding merged no_row
merged_none r = λ i. row (add-zero r.count i) (joined_none r.extent i)

pub merged_assoc : (r s t : Row) → merged (merged r s) t ≡ merged r (merged s t)
unfolding merged
merged_assoc r s t = λ i. row (add_assoc r.count s.count t.count i) (joined_assoc r.extent s.extent t.extent i)

-- ---- moving

module _ (m : Pose) where
  moved_rect_join : (b c : Rect) → moved_rect m (join_rect b c) ≡ join_rect (moved_rect m b) (moved_rect m c)
  unfolding moved_rect
  moved_rect_join b c =
      rw (flip_rect_join m.flip b c, turn_rect_join (m.angle / quarter_turn) (flip_rect m.flip b) (flip_rect m.flip c))
      (shift_rect_join _ _ m.at)

  pub moved_extent_join : (x y : Option Rect) → moved_extent m (joined x y) ≡ joined (moved_extent m x) (moved_extent m y)
  unfolding moved_extent joined
  moved_extent_join None y = refl
  moved_extent_join (Some b) None = refl
  moved_extent_join (Some b) (Some c) = ap Some (moved_rect_join b c)

  pub moved_merged : (r s : Row) → moved_row m (merged r s) ≡ merged (moved_row m r) (moved_row m s)
  unfolding moved_row merged
  moved_merged r s = λ i. row (r.count + s.count) (moved_extent_join r.extent s.extent i)

  pub moved_none : moved_row m no_row ≡ no_row
  unfolding moved_row moved_extent no_row
  moved_none = refl

  -- the rectangle of one point
  pub rect_at_moved : (p : Point) → rect_at (moved m p) ≡ moved_rect m (rect_at p)
  unfolding moved moved_rect
  rect_at_moved p =
      rect_at_shift (turned (m.angle / quarter_turn) (flipped m.flip p)) m.at
      ∙ rw (rect_at_turned (m.angle / quarter_turn) (flipped m.flip p), rect_at_flipped m.flip p)

-- ---- how far

pub extent_within : {n m : ℕ} (x : Option Rect) → n ≤ m → ExtentWithin n x → ExtentWithin m x
extent_within None h w = nothing_in
extent_within (Some b) h (over_in w) = over_in (rect_within b h w)

pub joined_within : {n : ℕ} (x y : Option Rect) → ExtentWithin n x → ExtentWithin n y → ExtentWithin n (joined x y)
unfolding joined
joined_within None y w v = v
joined_within (Some b) None w v = w
joined_within (Some b) (Some c) (over_in w) (over_in v) = over_in (join_rect_within b c w v)

pub moved_rect_within : {n k : ℕ} (m : Pose) (b : Rect) → PoseWithin k m → RectWithin n b → RectWithin (n + k) (moved_rect m b)
unfolding moved_rect
moved_rect_within m b p w = shift_rect_within _ m.at (turn_rect_within (m.angle / quarter_turn) _ (flip_rect_within m.flip b w)) p.at_in

pub moved_extent_within : {n k : ℕ} (m : Pose) (x : Option Rect) → PoseWithin k m → ExtentWithin n x → ExtentWithin (n + k) (moved_extent m x)
unfolding moved_extent
moved_extent_within m None p w = nothing_in
moved_extent_within m (Some b) p (over_in w) = over_in (moved_rect_within m b p w)

pub copied_extent_within : {n k : ℕ} (s : Repeat) (x : Option Rect) → (s.nx - 1) * s.dx ≤ k → (s.ny - 1) * s.dy ≤ k → ExtentWithin n x → ExtentWithin (n + k) (copied_extent s x)
unfolding copied_extent
copied_extent_within s None h l w = nothing_in
copied_extent_within s (Some b) h l (over_in w) = over_in (stretch_rect_within b _ _ w h l)

-- of an extent that is told apart
pub over_near : {n : ℕ} {x : Option Rect} {b : Rect} → ExtentWithin n x → x ≡ Some b → RectWithin n b
over_near {n} {x} {b} w e = go (subst (ExtentWithin n) e w)
  where
    go : ExtentWithin n (Some b) → RectWithin n b
    go (over_in v) = v
