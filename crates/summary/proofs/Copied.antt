-- Copies of rows: of none none, of two merged the copies merged, of one copy the row itself; and how far they reach.
-- Assumes nothing.
use Rattle.std.specs.Prelude.{None, Option, Some}
use Prim.Native.Nat.{ℕ, zero, suc, ◌+◌, ◌*◌, ◌≤◌, ◌<◌, ◌^◌}
use mathlib.Core.Path.{◌≡◌, refl, ap, ◌∙◌}
use native.Mathlib.Nat.{mul-add, mul-le-mul_left}
use native.Mathlib.Omega.{arith}
use lib.IntN.{pos}
use Rattle.place.specs.declared.Repeat.{Repeat}
use Rattle.spans.specs.Spans.{span, rect, join_span, stretch_span, join_rect, stretch_rect}
use Rattle.spans.specs.declared.Span.{Span}
use Rattle.spans.specs.declared.Rect.{Rect}
use Rattle.spans.proofs.Order.{shift_greatest}
use Rattle.spans.proofs.Spans.{stretch_span_none}
use Rattle.summary_rows.specs.Rows.{row, no_row, joined, merged, copied_extent, copied_row, ExtentWithin, nothing_in}
use Rattle.summary_rows.specs.declared.Row.{Row}
use Rattle.summary_rows.proofs.Rows.{extent_within, joined_within, copied_extent_within}
use Rattle.summary_by_aperture.specs.Walk.{merges}
use Rattle.summary_by_aperture.proofs.Walk.{merges_snoc}
use Rattle.summary.specs.Adds.{single, Copies}

stretch_span_join : (s t : Span) (n : ℕ) → stretch_span (join_span s t) n ≡ join_span (stretch_span s n) (stretch_span t n)
unfolding join_span stretch_span
stretch_span_join s t n = λ i. span (join_span s t).low (shift_greatest s.high t.high (pos n) i)

stretch_rect_join : (b c : Rect) (w h : ℕ) → stretch_rect (join_rect b c) w h ≡ join_rect (stretch_rect b w h) (stretch_rect c w h)
unfolding join_rect stretch_rect
stretch_rect_join b c w h = λ i. rect (stretch_span_join b.across c.across w i) (stretch_span_join b.up c.up h i)

module _ (m : Repeat) where
  extent_merged : (x y : Option Rect) → copied_extent m (joined x y) ≡ joined (copied_extent m x) (copied_extent m y)
  unfolding copied_extent joined
  extent_merged None y = refl
  extent_merged (Some b) None = refl
  extent_merged (Some b) (Some c) = ap Some (stretch_rect_join b c _ _)

  count_merged : (x y : ℕ) → m.nx * (m.ny * (x + y)) ≡ m.nx * (m.ny * x) + m.nx * (m.ny * y)
  count_merged x y = ap (λ (k : ℕ). m.nx * k) (mul-add m.ny x y) ∙ mul-add m.nx (m.ny * x) (m.ny * y)

  pub copied_merged : (r s : Row) → copied_row m (merged r s) ≡ merged (copied_row m r) (copied_row m s)
  unfolding copied_row merged
  copied_merged r s = λ i. row (count_merged r.count s.count i) (extent_merged r.extent s.extent i)

  none_count : m.nx * (m.ny * 0) ≡ 0
  none_count = let z : m.ny * 0 ≡ 0 = omega arith in rw z (omega arith)

  pub copied_none : copied_row m no_row ≡ no_row
  unfolding copied_row no_row copied_extent
  copied_none = λ i. row (none_count i) None

  -- no more of the first than of all
  pub copied_count : (r s : Row) → r.count ≤ s.count → (copied_row m r).count ≤ (copied_row m s).count
  unfolding copied_row
  copied_count r s h = mul-le-mul_left m.nx (mul-le-mul_left m.ny h)

  pub copied_near : Copies m → (r : Row) → ExtentWithin (10 ^ 15) r.extent → ExtentWithin (10 ^ 17) (copied_row m r).extent
  unfolding copied_row
  copied_near c r w = extent_within _ (omega arith) (copied_extent_within m r.extent c.steps.across_in c.steps.up_in w)

-- a single copy
pub single_row : (r : Row) → copied_row single r ≡ r
unfolding copied_row copied_extent single stretch_rect
single_row r = λ i. row (count i) (same r.extent i)
  where
    count : 1 * (1 * r.count) ≡ r.count
    count = omega arith

    same : (x : Option Rect) → copied_extent single x ≡ x
    same None = refl
    same (Some b) = λ i. Some (rect (stretch_span_none b.across i) (stretch_span_none b.up i))

pub single_copies : Copies single
unfolding single
single_copies = record {
  steps = record { nx_low = omega arith; ny_low = omega arith; across_in = omega arith; up_in = omega arith };
  column = omega arith;
  whole = omega arith;
}

pub joined_near : {x : ℕ} (r s : Row) → ExtentWithin x r.extent → ExtentWithin x s.extent → ExtentWithin x (merged r s).extent
unfolding merged
joined_near r s w v = joined_within r.extent s.extent w v

-- rows merged lie where each of them does
pub merges_near : (x : ℕ) (F : ℕ → Row) (p n : ℕ) → ((i : ℕ) → i < n → ExtentWithin x (F (p + i)).extent) → ExtentWithin x (merges F p n).extent
unfolding merges no_row
merges_near x F p zero h = nothing_in
merges_near x F p (suc n) h = rw (merges_snoc F p n) (near (merges_near x F p n (λ i l. h i (omega arith))))
  where
    near : ExtentWithin x (merges F p n).extent → ExtentWithin x (merged (merges F p n) (F (p + n))).extent
    near w = joined_near (merges F p n) (F (p + n)) w (h n (omega arith))
