-- A row that is kept is read back, and keeping it leaves the others.
-- Assumes nothing.
use Rattle.std.specs.Prelude.{None, Option, Some}
use Prim.Native.Nat.{ℕ, ◌+◌, ◌*◌, ◌/◌, ◌≤◌, ◌<◌, ◌^◌}
use mathlib.Core.Path.{◌≡◌, refl, ap, ◌∙◌}
use mathlib.Core.Bool.{Bool, true, false}
use mathlib.Core.List.{List}
use native.Mathlib.Nat.{add-zero}
use native.Mathlib.Omega.{arith}
use lib.Dec.{ltb, eqb}
use lib.ListN.{length, get_or}
use borrow.Author.Tests.{ltb-true, ltb-false}
use Rattle.ints.proofs.Bounded.{back}
use Rattle.sheet.specs.Records.{stored}
use Rattle.sheet.specs.Meaning.{flag_word}
use Rattle.sheet.proofs.Stored.{stored_below, stored_above, stored_at, stored_long}
use Rattle.spans.specs.Spans.{span, rect, SpanWithin}
use Rattle.summary_rows.specs.Rows.{row, ExtentWithin, over_in}
use Rattle.spans.specs.declared.Span.{Span}
use Rattle.summary_rows.specs.declared.Row.{Row}
use mir.Syntax.{w64}
use mir.Val.{of_z}
use Rattle.summary_by_aperture.specs.Kept.{has_points, corners, row_words, kept_words, span_of, extent_if, row_at}
use Rattle.spans.specs.declared.Rect.{Rect}

pub words_long : (r : Row) → length (row_words r) ≡ 5
unfolding row_words
words_long r = refl

pub kept_long : (r : Row) → length (kept_words r) ≡ 6
unfolding kept_words row_words
kept_long r = refl

-- a row is its six words
row_same : (s t : List ℕ) (b c : ℕ) → ((m : ℕ) → m < 6 → get_or s (b * 6 + m) 0 ≡ get_or t (c * 6 + m) 0) → row_at s b ≡ row_at t c
unfolding row_at
row_same s t b c h =
    let z : get_or s (b * 6) 0 ≡ get_or t (c * 6) 0 = rw (add-zero (b * 6), add-zero (c * 6)) at (h 0 (omega arith)) in
    λ i. row
    (h 1 (omega arith) i)
    (extent_if (eqb (z i) 1)
    (rect (span_of (h 2 (omega arith) i) (h 4 (omega arith) i)) (span_of (h 3 (omega arith) i) (h 5 (omega arith) i))))

-- read back
span_back : (s : Span) → SpanWithin (10 ^ 17) s → span_of (of_z w64 s.low) (of_z w64 s.high) ≡ s
unfolding span_of
span_back s w = λ i. span (back s.low (omega arith) i) (back s.high (omega arith) i)

words_back : (r : Row) → ExtentWithin (10 ^ 17) r.extent → row_at (kept_words r) 0 ≡ r
unfolding row_at kept_words row_words extent_if has_points corners flag_word
words_back r w = ap (row r.count) (go r.extent w)
  where
    go : (x : Option Rect) → ExtentWithin (10 ^ 17) x →
        extent_if (eqb (flag_word (has_points x)) 1)
        (rect (span_of (of_z w64 (corners x).across.low) (of_z w64 (corners x).across.high)) (span_of (of_z w64 (corners x).up.low) (of_z w64 (corners x).up.high)))
        ≡ x
    go None w = refl
    go (Some b) (over_in w) = λ i. Some (rect (span_back b.across w.across_in i) (span_back b.up w.up_in i))

module _ (s : List ℕ) (b : ℕ) (r : Row) (room : b < length s / 6) where
  fits : b * 6 + length (kept_words r) ≤ length s
  fits = omega (arith, kept_long r)

  pub kept_read : ExtentWithin (10 ^ 17) r.extent → row_at (stored s (b * 6) (kept_words r)) b ≡ r
  kept_read w =
      row_same (stored s (b * 6) (kept_words r)) (kept_words r) b 0
      (λ m l. stored_at s (b * 6) (kept_words r) fits m (omega (arith, kept_long r)) ∙ ap (λ k. get_or (kept_words r) k 0) (from_zero m))
      ∙ words_back r w
    where
      from_zero : (m : ℕ) → m ≡ 0 * 6 + m
      from_zero m = omega arith

  pub kept_other : (c : ℕ) → (c ≡ b → ⊥) → row_at (stored s (b * 6) (kept_words r)) c ≡ row_at s c
  kept_other c n = row_same (stored s (b * 6) (kept_words r)) s c c (λ m l. go (ltb c b) refl m l)
    where
      behind : b ≤ c → (m : ℕ) → b * 6 + length (kept_words r) ≤ c * 6 + m
      behind h m = omega (arith, kept_long r)

      go : (t : Bool) → ltb c b ≡ t → (m : ℕ) → m < 6 → get_or (stored s (b * 6) (kept_words r)) (c * 6 + m) 0 ≡ get_or s (c * 6 + m) 0
      go true q m l = let h = ltb-true c b q in stored_below s (b * 6) (kept_words r) fits (c * 6 + m) (omega arith)
      go false q m l = stored_above s (b * 6) (kept_words r) fits (c * 6 + m) (behind (ltb-false c b q) m)

  pub kept_room : length (stored s (b * 6) (kept_words r)) ≡ length s
  kept_room = stored_long s (b * 6) (kept_words r) fits
