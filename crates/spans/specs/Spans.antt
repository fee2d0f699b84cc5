-- From the least to the greatest: of whole numbers a span, of points a rectangle; and how the movements of points move them.
use Rattle.std.specs.Prelude.{ℕ, zero, suc, ◌≤◌, Bool, cond, ℤ, pos, neg_ℤ, nat_abs, ◌+ℤ◌}
use Rattle.std.specs.Int.Signed.{lt_z}
use Rattle.points.specs.declared.Point.{Point}
use Rattle.spans.specs.declared.Span.{Span}
use Rattle.spans.specs.declared.Rect.{Rect}

unfoldable pub least : ℤ → ℤ → ℤ
least a b = cond (lt_z a b) a b

unfoldable pub greatest : ℤ → ℤ → ℤ
greatest a b = cond (lt_z a b) b a

abbrev pub span : ℤ → ℤ → Span
span low high = record { low = low; high = high }

abbrev pub rect : Span → Span → Rect
rect across up = record { across = across; up = up }

-- ---- of numbers

unfoldable pub span_at : ℤ → Span
span_at z = span z z

unfoldable pub join_span : Span → Span → Span
join_span s t = span (least s.low t.low) (greatest s.high t.high)

unfoldable pub neg_span : Span → Span
neg_span s = span (neg_ℤ s.high) (neg_ℤ s.low)

unfoldable pub shift_span : Span → ℤ → Span
shift_span s d = span (s.low +ℤ d) (s.high +ℤ d)

-- as far as copies of it reach, the last n further
unfoldable pub stretch_span : Span → ℕ → Span
stretch_span s n = span s.low (s.high +ℤ pos n)

-- ---- of points

unfoldable pub rect_at : Point → Rect
rect_at p = rect (span_at p.x) (span_at p.y)

unfoldable pub join_rect : Rect → Rect → Rect
join_rect b c = rect (join_span b.across c.across) (join_span b.up c.up)

-- as `flipped`, `turned` and `shift` of points
unfoldable pub flip_rect : Bool → Rect → Rect
flip_rect f b = cond f (rect (neg_span b.across) b.up) b

unfoldable pub turn_rect : ℕ → Rect → Rect
turn_rect zero b = b
turn_rect (suc zero) b = rect (neg_span b.up) b.across
turn_rect (suc (suc zero)) b = rect (neg_span b.across) (neg_span b.up)
turn_rect (suc (suc (suc n))) b = rect b.up (neg_span b.across)

unfoldable pub shift_rect : Rect → Point → Rect
shift_rect b p = rect (shift_span b.across p.x) (shift_span b.up p.y)

unfoldable pub stretch_rect : Rect → ℕ → ℕ → Rect
stretch_rect b w h = rect (stretch_span b.across w) (stretch_span b.up h)

-- ---- how far they reach

pub record SpanWithin (n : ℕ) (s : Span) : Type 0 where
  pub low_in : nat_abs s.low ≤ n
  pub high_in : nat_abs s.high ≤ n

pub record RectWithin (n : ℕ) (b : Rect) : Type 0 where
  pub across_in : SpanWithin n b.across
  pub up_in : SpanWithin n b.up
