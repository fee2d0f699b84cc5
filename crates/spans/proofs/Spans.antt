-- Spans and rectangles: joining in any grouping, moved alike, and the join of copies.
-- Assumes nothing.
use Prim.Native.Nat.{ℕ, zero, suc, ◌+◌, ◌≤◌}
use mathlib.Core.Path.{◌≡◌, refl}
use mathlib.Core.Bool.{Bool, true, false}
use native.Mathlib.Omega.{arith}
use lib.IntN.{ℤ, pos, nat_abs, +ℤ_idr}
use Rattle.ints.proofs.Bounded.{abs_add, abs_neg}
use Rattle.points.specs.declared.Point.{Point}
use Rattle.points.specs.Points.{Within, flipped, turned, shift}
use Rattle.spans.specs.Spans.{span, rect, span_at, join_span, neg_span, shift_span, stretch_span, rect_at, join_rect, flip_rect, turn_rect, shift_rect, stretch_rect, SpanWithin, RectWithin}
use Rattle.spans.specs.declared.Span.{Span}
use Rattle.spans.specs.declared.Rect.{Rect}
use Rattle.spans.proofs.Order.{least_assoc, greatest_assoc, neg_least, neg_greatest, shift_least, shift_greatest, least_same, greatest_same, least_up, greatest_up, least_within, greatest_within}

-- ---- spans

join_span_assoc : (s t u : Span) → join_span (join_span s t) u ≡ join_span s (join_span t u)
unfolding join_span
join_span_assoc s t u = λ i. span (least_assoc s.low t.low u.low i) (greatest_assoc s.high t.high u.high i)

pub join_span_same : (s : Span) → join_span s s ≡ s
unfolding join_span
join_span_same s = λ i. span (least_same s.low i) (greatest_same s.high i)

neg_span_join : (s t : Span) → neg_span (join_span s t) ≡ join_span (neg_span s) (neg_span t)
unfolding join_span neg_span
neg_span_join s t = λ i. span (neg_greatest s.high t.high i) (neg_least s.low t.low i)

shift_span_join : (s t : Span) (d : ℤ) → shift_span (join_span s t) d ≡ join_span (shift_span s d) (shift_span t d)
unfolding join_span shift_span
shift_span_join s t d = λ i. span (shift_least s.low t.low d i) (shift_greatest s.high t.high d i)

-- as far as m, and one that is shifted by n, no less: as far as n
pub stretch_span_more : (s : Span) (m n : ℕ) → m ≤ n → join_span (stretch_span s m) (shift_span s (pos n)) ≡ stretch_span s n
unfolding join_span stretch_span shift_span
stretch_span_more s m n h = λ i. span (least_up s.low n i) (greatest_up s.high m n h i)

pub shift_span_none : (s : Span) → shift_span s (pos 0) ≡ s
unfolding shift_span
shift_span_none s = λ i. span (+ℤ_idr s.low i) (+ℤ_idr s.high i)

pub stretch_span_none : (s : Span) → stretch_span s 0 ≡ s
unfolding stretch_span
stretch_span_none s = λ i. span s.low (+ℤ_idr s.high i)

-- ---- rectangles

pub join_rect_assoc : (b c d : Rect) → join_rect (join_rect b c) d ≡ join_rect b (join_rect c d)
unfolding join_rect
join_rect_assoc b c d = λ i. rect (join_span_assoc b.across c.across d.across i) (join_span_assoc b.up c.up d.up i)

pub flip_rect_join : (f : Bool) (b c : Rect) → flip_rect f (join_rect b c) ≡ join_rect (flip_rect f b) (flip_rect f c)
unfolding join_rect flip_rect
flip_rect_join true b c = λ i. rect (neg_span_join b.across c.across i) (join_span b.up c.up)
flip_rect_join false b c = refl

pub turn_rect_join : (n : ℕ) (b c : Rect) → turn_rect n (join_rect b c) ≡ join_rect (turn_rect n b) (turn_rect n c)
unfolding join_rect turn_rect
turn_rect_join zero b c = refl
turn_rect_join (suc zero) b c = λ i. rect (neg_span_join b.up c.up i) (join_span b.across c.across)
turn_rect_join (suc (suc zero)) b c = λ i. rect (neg_span_join b.across c.across i) (neg_span_join b.up c.up i)
turn_rect_join (suc (suc (suc n))) b c = λ i. rect (join_span b.up c.up) (neg_span_join b.across c.across i)

pub shift_rect_join : (b c : Rect) (p : Point) → shift_rect (join_rect b c) p ≡ join_rect (shift_rect b p) (shift_rect c p)
unfolding join_rect shift_rect
shift_rect_join b c p = λ i. rect (shift_span_join b.across c.across p.x i) (shift_span_join b.up c.up p.y i)

-- the rectangle of one point moves as the point does
pub rect_at_flipped : (f : Bool) (p : Point) → rect_at (flipped f p) ≡ flip_rect f (rect_at p)
unfolding rect_at span_at flip_rect neg_span flipped
rect_at_flipped true p = refl
rect_at_flipped false p = refl

pub rect_at_turned : (n : ℕ) (p : Point) → rect_at (turned n p) ≡ turn_rect n (rect_at p)
unfolding rect_at span_at turn_rect neg_span turned
rect_at_turned zero p = refl
rect_at_turned (suc zero) p = refl
rect_at_turned (suc (suc zero)) p = refl
rect_at_turned (suc (suc (suc n))) p = refl

pub rect_at_shift : (p q : Point) → rect_at (shift p q) ≡ shift_rect (rect_at p) q
unfolding rect_at span_at shift_rect shift_span shift
rect_at_shift p q = refl

-- ---- how far they reach

pub span_within : {n m : ℕ} (s : Span) → n ≤ m → SpanWithin n s → SpanWithin m s
span_within s h w = let l = w.low_in in let k = w.high_in in record { low_in = omega arith; high_in = omega arith }

pub join_span_within : {n : ℕ} (s t : Span) → SpanWithin n s → SpanWithin n t → SpanWithin n (join_span s t)
unfolding join_span
join_span_within {n} s t w v = record {
  low_in = least_within n s.low t.low w.low_in v.low_in;
  high_in = greatest_within n s.high t.high w.high_in v.high_in;
}

pub neg_span_within : {n : ℕ} (s : Span) → SpanWithin n s → SpanWithin n (neg_span s)
unfolding neg_span
neg_span_within s w = record { low_in = omega (arith, abs_neg s.high); high_in = omega (arith, abs_neg s.low) }

shift_span_within : {n m : ℕ} (s : Span) (d : ℤ) → SpanWithin n s → nat_abs d ≤ m → SpanWithin (n + m) (shift_span s d)
unfolding shift_span
shift_span_within s d w h = record { low_in = omega (arith, abs_add s.low d); high_in = omega (arith, abs_add s.high d) }

stretch_span_within : {n m : ℕ} (s : Span) (d : ℕ) → SpanWithin n s → d ≤ m → SpanWithin (n + m) (stretch_span s d)
unfolding stretch_span
stretch_span_within s d w h = record { low_in = omega arith; high_in = omega (arith, abs_add s.high (pos d)) }

pub rect_within : {n m : ℕ} (b : Rect) → n ≤ m → RectWithin n b → RectWithin m b
rect_within b h w = record { across_in = span_within b.across h w.across_in; up_in = span_within b.up h w.up_in }

pub join_rect_within : {n : ℕ} (b c : Rect) → RectWithin n b → RectWithin n c → RectWithin n (join_rect b c)
unfolding join_rect
join_rect_within b c w v = record {
  across_in = join_span_within b.across c.across w.across_in v.across_in;
  up_in = join_span_within b.up c.up w.up_in v.up_in;
}

pub rect_at_within : {n : ℕ} (p : Point) → Within n p → RectWithin n (rect_at p)
unfolding rect_at span_at
rect_at_within p w = record { across_in = record { low_in = w.across; high_in = w.across }; up_in = record { low_in = w.up; high_in = w.up } }

pub flip_rect_within : {n : ℕ} (f : Bool) (b : Rect) → RectWithin n b → RectWithin n (flip_rect f b)
unfolding flip_rect
flip_rect_within true b w = record { across_in = neg_span_within b.across w.across_in; up_in = w.up_in }
flip_rect_within false b w = w

pub turn_rect_within : {n : ℕ} (k : ℕ) (b : Rect) → RectWithin n b → RectWithin n (turn_rect k b)
unfolding turn_rect
turn_rect_within zero b w = w
turn_rect_within (suc zero) b w = record { across_in = neg_span_within b.up w.up_in; up_in = w.across_in }
turn_rect_within (suc (suc zero)) b w = record { across_in = neg_span_within b.across w.across_in; up_in = neg_span_within b.up w.up_in }
turn_rect_within (suc (suc (suc k))) b w = record { across_in = w.up_in; up_in = neg_span_within b.across w.across_in }

pub shift_rect_within : {n m : ℕ} (b : Rect) (p : Point) → RectWithin n b → Within m p → RectWithin (n + m) (shift_rect b p)
unfolding shift_rect
shift_rect_within b p w h = record {
  across_in = shift_span_within b.across p.x w.across_in h.across;
  up_in = shift_span_within b.up p.y w.up_in h.up;
}

pub stretch_rect_within : {n m : ℕ} (b : Rect) (x y : ℕ) → RectWithin n b → x ≤ m → y ≤ m → RectWithin (n + m) (stretch_rect b x y)
unfolding stretch_rect
stretch_rect_within b x y w h k = record {
  across_in = stretch_span_within b.across x w.across_in h;
  up_in = stretch_span_within b.up y w.up_in k;
}
