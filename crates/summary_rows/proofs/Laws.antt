-- The row of a list of items: of two lists it is the rows merged, of a placed list the row moved, of copies the row copied.
-- Assumes nothing.
use Rattle.std.specs.Prelude.{None, Option, Some}
use Prim.Native.Nat.{ℕ, zero, suc, ◌+◌, ◌-◌, ◌*◌, ◌≤◌, ◌<◌}
use mathlib.Core.Path.{◌≡◌, refl, sym, ap, ◌∙◌}
use mathlib.Core.Bool.{Bool, true, false, cond}
use mathlib.Core.List.{List, [], ◌∷◌, ◌++◌, map, append-nil}
use native.Mathlib.Nat.{zero-add}
use native.Mathlib.Omega.{arith}
use lib.Dec.{eqb}
use lib.IntN.{pos}
use lib.ListN.{length}
use borrow.Author.Tests.{eqb-true}
use Rattle.base.specs.Run.{run}
use Rattle.base.proofs.Run.{run_snoc}
use Rattle.points.specs.declared.Point.{Point}
use Rattle.place.specs.declared.Item.{Item}
use Rattle.place.specs.declared.Pose.{Pose}
use Rattle.place.specs.declared.Repeat.{Repeat}
use Rattle.place.specs.Item.{has_start, has_end, is_oriented}
use Rattle.place.specs.Placing.{moved, moved_if, swapped, placed, ItemWithin}
use Rattle.place.specs.Outer.{brought, flashed_by}
use Rattle.place.specs.Copies.{step, copies}
use Rattle.spans.specs.Spans.{rect, rect_at, flip_rect, turn_rect, shift_rect, stretch_rect, stretch_span, join_rect, join_span, shift_span}
use Rattle.summary_rows.specs.Rows.{row, no_row, joined, merged, moved_rect, moved_extent, moved_row, copied_extent, copied_row, ExtentWithin, nothing_in, over_in}
use Rattle.summary_rows.specs.Summed.{asks, points_of, extent_of, item_row, row_of}
use Rattle.spans.specs.declared.Span.{Span}
use Rattle.summary_rows.specs.declared.Asked.{Asked}
use Rattle.summary_rows.specs.declared.Asked.TheVariants.{Aperture, Regions}
use Rattle.spans.proofs.Spans.{join_span_same, shift_span_none, stretch_span_none, stretch_span_more, rect_at_within}
use Rattle.summary_rows.proofs.Rows.{none_merged, merged_none, merged_assoc, moved_merged, moved_none, moved_extent_join, rect_at_moved, joined_within}
use Rattle.spans.specs.declared.Rect.{Rect}

-- ---- two lists

pub row_append : (q : Asked) (l m : List Item) → row_of q (l ++ m) ≡ merged (row_of q l) (row_of q m)
unfolding row_of
row_append q [] m = sym (none_merged (row_of q m))
row_append q (t ∷ l) m = rw (row_append q l m) (sym (merged_assoc (item_row q t) (row_of q l) (row_of q m)))

pub row_one : (q : Asked) (t : Item) → row_of q (t ∷ []) ≡ item_row q t
unfolding row_of
row_one q t = merged_none (item_row q t)

-- ---- a placed list

-- under a flip cw and ccw change places: what is said of both alike stays
swapped_same : (P : ℕ → Bool) (f : Bool) (k : ℕ) → P 2 ≡ P 3 → P 7 ≡ P 8 → P (swapped f k) ≡ P k
unfolding swapped
swapped_same P false k a b = refl
swapped_same P true k a b = go (eqb k 2) (eqb k 3) (eqb k 7) (eqb k 8) refl refl refl refl
  where
    go : (t u v w : Bool) → eqb k 2 ≡ t → eqb k 3 ≡ u → eqb k 7 ≡ v → eqb k 8 ≡ w → P (cond t 3 (cond u 2 (cond v 8 (cond w 7 k)))) ≡ P k
    go true u v w e f g h = rw (eqb-true k 2 e) (sym a)
    go false true v w e f g h = rw (eqb-true k 3 f) a
    go false false true w e f g h = rw (eqb-true k 7 g) (sym b)
    go false false false true e f g h = rw (eqb-true k 8 h) b
    go false false false false e f g h = refl

module _ (m : Pose) (t : Item) where
  pub oriented_same : is_oriented (swapped m.flip t.kind) ≡ is_oriented t.kind
  unfolding is_oriented
  oriented_same = swapped_same is_oriented m.flip t.kind refl refl

  start_same : has_start (swapped m.flip t.kind) ≡ has_start t.kind
  unfolding has_start
  start_same = swapped_same has_start m.flip t.kind refl refl

  end_same : has_end (swapped m.flip t.kind) ≡ has_end t.kind
  unfolding has_end
  end_same = swapped_same has_end m.flip t.kind refl refl

  asks_placed : (q : Asked) → asks q (placed m t) ≡ asks q t
  unfolding asks placed
  asks_placed (Aperture n) = rw oriented_same
  asks_placed Regions = rw oriented_same

  points_placed : points_of (placed m t) ≡ map (moved m) (points_of t)
  unfolding points_of placed moved_if
  points_placed = rw (start_same, end_same) (go (has_end t.kind) (has_start t.kind))
    where
      go : (e s : Bool) → cond e (cond s (cond s (moved m t.start) t.start ∷ cond e (moved m t.end) t.end ∷ []) (cond e (moved m t.end) t.end ∷ [])) []
          ≡ map (moved m) (cond e (cond s (t.start ∷ t.end ∷ []) (t.end ∷ [])) [])
      go true true = refl
      go true false = refl
      go false s = refl

extent_moved : (m : Pose) (ps : List Point) → extent_of (map (moved m) ps) ≡ moved_extent m (extent_of ps)
unfolding extent_of moved_extent
extent_moved m [] = refl
extent_moved m (p ∷ ps) = rw (extent_moved m ps, rect_at_moved m p) (sym (moved_extent_join m (Some (rect_at p)) (extent_of ps)))

item_placed : (q : Asked) (m : Pose) (t : Item) → item_row q (placed m t) ≡ moved_row m (item_row q t)
unfolding item_row moved_row
item_placed q m t = rw (asks_placed m t q, points_placed m t, extent_moved m (points_of t)) (go (asks q t))
  where
    go : (b : Bool) → cond b (row 1 (moved_extent m (extent_of (points_of t)))) no_row ≡ moved_row m (cond b (row 1 (extent_of (points_of t))) no_row)
    go true = refl
    go false = sym (moved_none m)

-- which flash brings an item makes no difference
item_flashed : (q : Asked) (place : ℕ) (m : Pose) (t : Item) → item_row q (flashed_by place m t) ≡ item_row q (placed m t)
unfolding flashed_by brought item_row asks points_of
item_flashed (Aperture n) place m t = refl
item_flashed Regions place m t = refl

-- the row of items placed one by one, each item's row moved
row_map : (q : Asked) (m : Pose) (f : Item → Item) → ((t : Item) → item_row q (f t) ≡ moved_row m (item_row q t)) → (l : List Item) → row_of q (map f l) ≡ moved_row m (row_of q l)
unfolding row_of
row_map q m f h [] = sym (moved_none m)
row_map q m f h (t ∷ l) = rw (h t, row_map q m f h l) (sym (moved_merged m (item_row q t) (row_of q l)))

pub row_placed : (q : Asked) (m : Pose) (l : List Item) → row_of q (map (placed m) l) ≡ moved_row m (row_of q l)
row_placed q m l = row_map q m (placed m) (item_placed q m) l

pub row_flashed : (q : Asked) (place : ℕ) (m : Pose) (l : List Item) → row_of q (map (flashed_by place m) l) ≡ moved_row m (row_of q l)
row_flashed q place m l = row_map q m (flashed_by place m) (λ t. item_flashed q place m t ∙ item_placed q m t) l

-- ---- copies

-- an extent with its spans changed, across and up
map_extent : (Span → Span) → (Span → Span) → Option Rect → Option Rect
map_extent f g None = None
map_extent f g (Some b) = Some (rect (f b.across) (g b.up))

map_same : (f g f' g' : Span → Span) (x : Option Rect) → ((z : Span) → f z ≡ f' z) → ((z : Span) → g z ≡ g' z) → map_extent f g x ≡ map_extent f' g' x
unfolding map_extent
map_same f g f' g' None h k = refl
map_same f g f' g' (Some b) h k = λ i. Some (rect (h b.across i) (k b.up i))

map_joined : (f g f' g' f'' g'' : Span → Span) (x : Option Rect) → ((z : Span) → join_span (f z) (f' z) ≡ f'' z) → ((z : Span) → join_span (g z) (g' z) ≡ g'' z) →
    joined (map_extent f g x) (map_extent f' g' x) ≡ map_extent f'' g'' x
unfolding map_extent joined join_rect
map_joined f g f' g' f'' g'' None h k = refl
map_joined f g f' g' f'' g'' (Some b) h k = λ i. Some (rect (h b.across i) (k b.up i))

run_none : (f : ℕ → List Item) (p : ℕ) → run f p 0 ≡ []
unfolding run
run_none f p = refl

run_one : (f : ℕ → List Item) → run f 0 1 ≡ f 0
unfolding run
run_one f = append-nil (f 0)

-- pieces whose rows have one count, the spans of piece i being those that A and B make, and those of the first pieces together those
-- that A' and B' do
module _ (q : Asked) (f : ℕ → List Item) (c : ℕ) (x : Option Rect) (A B A' B' : ℕ → Span → Span)
    (piece : (i : ℕ) → row_of q (f i) ≡ row c (map_extent (A i) (B i) x))
    (first-a : (z : Span) → A 0 z ≡ A' 0 z) (first-b : (z : Span) → B 0 z ≡ B' 0 z)
    (next-a : (i : ℕ) (z : Span) → join_span (A' i z) (A (suc i) z) ≡ A' (suc i) z)
    (next-b : (i : ℕ) (z : Span) → join_span (B' i z) (B (suc i) z) ≡ B' (suc i) z) where
  row_pieces : (n : ℕ) → row_of q (run f 0 (suc n)) ≡ row (suc n * c) (map_extent (A' n) (B' n) x)
  unfolding merged
  row_pieces zero =
      ap (row_of q) (run_one f) ∙ piece 0 ∙ (λ i. row (one i) (map_same (A 0) (B 0) (A' 0) (B' 0) x first-a first-b i))
    where
      one : c ≡ 1 * c
      one = omega arith
  row_pieces (suc n) =
      ap (row_of q) (run_snoc f 0 (suc n)) ∙ row_append q (run f 0 (suc n)) (f (0 + suc n))
      ∙ rw (zero-add (suc n), row_pieces n, piece (suc n)) more
    where
      count : suc n * c + c ≡ suc (suc n) * c
      count = omega arith

      more : merged (row (suc n * c) (map_extent (A' n) (B' n) x)) (row c (map_extent (A (suc n)) (B (suc n)) x)) ≡ row (suc (suc n) * c) (map_extent (A' (suc n)) (B' (suc n)) x)
      more = λ i. row (count i) (map_joined (A' n) (B' n) (A (suc n)) (B (suc n)) (A' (suc n)) (B' (suc n)) x (next-a n) (next-b n) i)

-- shifted by i steps of d, and stretched by as many
abbrev by : ℕ → ℕ → Span → Span
by d i z = shift_span z (pos (i * d))

abbrev to : ℕ → ℕ → Span → Span
to d i z = stretch_span z (i * d)

-- a step further is no less far
grows : (n d : ℕ) → n * d ≤ suc n * d
grows n d = omega arith

by_none : (d : ℕ) (z : Span) → by d 0 z ≡ to d 0 z
by_none d z = let e : 0 * d ≡ 0 = omega arith in rw e (shift_span_none z ∙ sym (stretch_span_none z))

to_more : (d i : ℕ) (z : Span) → join_span (to d i z) (by d (suc i) z) ≡ to d (suc i) z
to_more d i z = stretch_span_more z (i * d) (suc i * d) (grows i d)

module _ (q : Asked) (s : Repeat) (body : List Item) where
  -- one copy
  copy_row : (i j : ℕ) → row_of q (map (placed (step s i j)) body) ≡ row (row_of q body).count (map_extent (by s.dx i) (by s.dy j) (row_of q body).extent)
  unfolding moved_row moved_extent moved_rect step flip_rect turn_rect shift_rect map_extent
  copy_row i j = row_placed q (step s i j) body ∙ ap (row (row_of q body).count) (go (row_of q body).extent)
    where
      go : (x : Option Rect) → moved_extent (step s i j) x ≡ map_extent (λ z. shift_span z (pos (i * s.dx))) (λ z. shift_span z (pos (j * s.dy))) x
      go None = refl
      go (Some b) = refl

  column_row : (i k : ℕ) → row_of q (run (λ j. map (placed (step s i j)) body) 0 (suc k)) ≡ row (suc k * (row_of q body).count) (map_extent (by s.dx i) (to s.dy k) (row_of q body).extent)
  column_row i k = row_pieces q (λ j. map (placed (step s i j)) body) (row_of q body).count (row_of q body).extent
      (λ j. by s.dx i) (by s.dy) (λ j. by s.dx i) (to s.dy)
      (copy_row i)
      (λ z. refl) (by_none s.dy)
      (λ j z. join_span_same (by s.dx i z)) (to_more s.dy)
      k

  table_row : (n k : ℕ) → row_of q (run (λ i. run (λ j. map (placed (step s i j)) body) 0 (suc k)) 0 (suc n))
      ≡ row (suc n * (suc k * (row_of q body).count)) (map_extent (to s.dx n) (to s.dy k) (row_of q body).extent)
  table_row n k = row_pieces q (λ i. run (λ j. map (placed (step s i j)) body) 0 (suc k)) (suc k * (row_of q body).count) (row_of q body).extent
      (by s.dx) (λ i. to s.dy k) (to s.dx) (λ i. to s.dy k)
      (λ i. column_row i k)
      (by_none s.dx) (λ z. refl)
      (to_more s.dx) (λ i z. join_span_same (to s.dy k z))
      n

  pub row_copies : 1 ≤ s.nx → 1 ≤ s.ny → row_of q (copies s body) ≡ copied_row s (row_of q body)
  unfolding copies copied_row copied_extent stretch_rect map_extent
  row_copies h k =
      let n : s.nx ≡ suc (s.nx - 1) = omega arith in
      let m : s.ny ≡ suc (s.ny - 1) = omega arith in
      let n' : suc (s.nx - 1) ≡ s.nx = omega arith in
      let m' : suc (s.ny - 1) ≡ s.ny = omega arith in
      (λ i. row_of q (run (λ i'. run (λ j. map (placed (step s i' j)) body) 0 (m i)) 0 (n i)))
      ∙ table_row (s.nx - 1) (s.ny - 1)
      ∙ (λ i. row (n' i * (m' i * (row_of q body).count)) (as_copied (row_of q body).extent i))
    where
      as_copied : (x : Option Rect) → map_extent (to s.dx (s.nx - 1)) (to s.dy (s.ny - 1)) x ≡ copied_extent s x
      as_copied None = refl
      as_copied (Some b) = refl

-- ---- how many, and how far

one_few : (q : Asked) (t : Item) → (item_row q t).count ≤ 1
unfolding item_row no_row
one_few q t = go (asks q t)
  where
    go : (b : Bool) → (cond b (row 1 (extent_of (points_of t))) (row 0 None)).count ≤ 1
    go true = omega arith
    go false = omega arith

pub row_few : (q : Asked) (l : List Item) → (row_of q l).count ≤ length l
unfolding row_of merged no_row
row_few q [] = omega arith
row_few q (t ∷ l) = omega (arith, one_few q t, row_few q l)

points_within : {n : ℕ} (t : Item) → ItemWithin n t → ExtentWithin n (extent_of (points_of t))
unfolding extent_of points_of
points_within {n} t w = go (has_end t.kind) (has_start t.kind)
  where
    at_end_lem : ExtentWithin n (joined (Some (rect_at t.end)) None)
    at_end_lem = joined_within _ _ (over_in (rect_at_within t.end w.end_in_lem)) nothing_in

    go : (e s : Bool) → ExtentWithin n (extent_of (cond e (cond s (t.start ∷ t.end ∷ []) (t.end ∷ [])) []))
    go true true = joined_within _ _ (over_in (rect_at_within t.start w.start_in_lem)) at_end_lem
    go true false = at_end_lem
    go false s = nothing_in

pub item_near : {n : ℕ} (q : Asked) (t : Item) → ItemWithin n t → ExtentWithin n (item_row q t).extent
unfolding item_row no_row
item_near {n} q t w = go (asks q t)
  where
    go : (b : Bool) → ExtentWithin n (cond b (row 1 (extent_of (points_of t))) (row 0 None)).extent
    go true = points_within t w
    go false = nothing_in

pub none_near : {n : ℕ} (q : Asked) → ExtentWithin n (row_of q []).extent
unfolding row_of no_row
none_near q = nothing_in

pub run_near : (q : Asked) (n : ℕ) (f : ℕ → List Item) (p k : ℕ) → ((i : ℕ) → i < k → ExtentWithin n (row_of q (f (p + i))).extent) → ExtentWithin n (row_of q (run f p k)).extent
unfolding merged
run_near q n f p zero h = rw (run_none f p) (none_near q)
run_near q n f p (suc k) h = rw (run_snoc f p k, row_append q (run f p k) (f (p + k)))
    (joined_within (row_of q (run f p k)).extent (row_of q (f (p + k))).extent (run_near q n f p k (λ i l. h i (omega arith))) (h k (omega arith)))
