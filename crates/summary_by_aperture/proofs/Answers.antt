-- Rows put one after the other into words that are all 0, and what the call answers.
-- Assumes nothing.
use Rattle.std.specs.Prelude.{Err, Ok}
use Prim.Native.Nat.{ℕ, ◌+◌, ◌-◌, ◌*◌, ◌/◌, ◌≤◌, ◌<◌}
use mathlib.Core.Path.{◌≡◌, sym, ap, ◌∙◌}
use mathlib.Core.Bool.{true, false}
use mathlib.Core.List.{List, ◌++◌}
use native.Mathlib.Nat.{zero-add}
use native.Mathlib.Numerals.{add-one}
use native.Mathlib.Omega.{arith}
use lib.ListN.{length, drop, replicate, length-replicate, replicate-append-replicate}
use lib.Seq.{take_at, drop_at, drop-append-add}
use borrow.Author.Tests.{ltb-true, leb-true}
use Rattle.base.specs.Run.{run}
use Rattle.base.proofs.And.{and_l, and_r, ands}
use Rattle.base.proofs.Run.{run_snoc, length_copies}
use Rattle.place.specs.declared.Item.{Item}
use Rattle.sheet.specs.Records.{stored}
use Rattle.sheet.specs.Containers.{apertures_used}
use Rattle.sheet.specs.Meaning.{sheet_items}
use Rattle.sheet.specs.Valid.{valid}
use Rattle.summary_rows.specs.Summed.{row_of}
use Rattle.summary_rows.specs.declared.Asked.TheVariants.{Regions}
use Rattle.summary_by_aperture.specs.Kept.{kept_width, scratch_width, row_words}
use Rattle.summary_by_aperture.specs.Blocks.{Fits}
use Rattle.summary_by_aperture.specs.Answers.{aperture_row, summary_words, roomy, outcome_of, summed}
use Rattle.summary_by_aperture.proofs.Kept.{words_long}
use Rattle.summary_by_aperture.specs.declared.SummaryError.TheVariants as summary_error

drop_zeros : (n m : ℕ) → drop n (replicate {A = ℕ} (n + m) 0) ≡ replicate m 0
drop_zeros n m = rw (← replicate-append-replicate {A = ℕ} n m 0) (drop_at (replicate n 0) (replicate m 0) n (length-replicate n 0))

-- words w stored after a list, where zeros were
pub put_behind : (l w : List ℕ) (at words : ℕ) → length l ≡ at → at + length w ≤ words →
    stored (l ++ replicate (words - at) 0) at w ≡ l ++ w ++ replicate (words - (at + length w)) 0
unfolding stored
put_behind l w at words long h =
    let r : words - at ≡ length w + (words - (at + length w)) = omega arith in
    let front = take_at l (replicate {A = ℕ} (words - at) 0) at long in
    let back = rw long at (drop-append-add l (replicate {A = ℕ} (words - at) 0) (length w)) in
    let zeros = drop_zeros (length w) (words - (at + length w)) in
    rw (front, back) (ap (λ z. l ++ w ++ z) (ap (λ k. drop (length w) (replicate {A = ℕ} k 0)) r ∙ zeros))

module _ (ts : List Item) (a : List ℕ) where
  -- the rows of j aperture records are put, and the rest is 0
  unfoldable pub rows_put : ℕ → ℕ → List ℕ
  rows_put words j = run (aperture_row ts a) 0 j ++ replicate (words - j * 5) 0

  row_long : (j : ℕ) → length (aperture_row ts a j) ≡ 5
  unfolding aperture_row
  row_long j = words_long _

  part_long : (j : ℕ) → length (run (aperture_row ts a) 0 j) ≡ j * 5
  part_long j = length_copies (aperture_row ts a) 5 0 j (λ i l. row_long (0 + i))

  pub put_none : (words : ℕ) → replicate words 0 ≡ rows_put words 0
  unfolding rows_put run
  put_none words = let r : words - 0 * 5 ≡ words = omega arith in rw r

  pub put_more : (words j : ℕ) → (j + 1) * 5 ≤ words → stored (rows_put words j) (j * 5) (aperture_row ts a j) ≡ rows_put words (j + 1)
  unfolding rows_put
  put_more words j h =
      let long = row_long j in
      let room : words - (j * 5 + length (aperture_row ts a j)) ≡ words - (j + 1) * 5 = omega arith in
      let snoc : run (aperture_row ts a) 0 j ++ aperture_row ts a j ≡ run (aperture_row ts a) 0 (j + 1) =
      rw (add-one j) (sym (run_snoc (aperture_row ts a) 0 j ∙ ap (λ k. run (aperture_row ts a) 0 j ++ aperture_row ts a k) (zero-add j))) in
      put_behind (run (aperture_row ts a) 0 j) (aperture_row ts a j) (j * 5) words (part_long j) (omega arith)
      ∙ (λ i. snoc i ++ replicate (room i) 0)

  pub put_last : (words n : ℕ) → (n + 1) * 5 ≤ words → stored (rows_put words n) (n * 5) (row_words (row_of Regions ts)) ≡ summary_words ts a n words
  unfolding rows_put summary_words
  put_last words n h =
      let long = words_long (row_of Regions ts) in
      let room : words - (n * 5 + length (row_words (row_of Regions ts))) ≡ words - (n + 1) * 5 = omega arith in
      put_behind (run (aperture_row ts a) 0 n) (row_words (row_of Regions ts)) (n * 5) words (part_long n) (omega arith)
      ∙ ap (λ k. run (aperture_row ts a) 0 n ++ row_words (row_of Regions ts) ++ replicate k 0) room

-- as long, as roomy
pub fits_same : (head e a s t : List ℕ) → length s ≡ length t → Fits head e a t → Fits head e a s
fits_same head e a s t q w = record { ok = w.ok; room = rw q w.room }

-- room for the rows, six words of eight
pub rows_fit : (head e a s : List ℕ) → Fits head e a s → apertures_used head ≤ length s / kept_width
rows_fit head e a s w = let r = w.room in omega arith

module _ (head e a : List ℕ) (words scratch : ℕ) where
  pub room_rows : roomy (apertures_used head) words scratch ≡ true → apertures_used head < words / 5
  unfolding roomy
  room_rows z = ltb-true _ _ (and_l _ _ z)

  pub room_scratch : roomy (apertures_used head) words scratch ≡ true → apertures_used head ≤ scratch / scratch_width
  unfolding roomy
  room_scratch z = leb-true _ _ (and_r _ _ z)

  pub answer_done : (out : List ℕ) → valid head e a ≡ true → roomy (apertures_used head) words scratch ≡ true →
      out ≡ summary_words (sheet_items head e a) a (apertures_used head) words → (Ok _ ≡ outcome_of head e a words scratch) × (out ≡ summed head e a words scratch)
  unfolding outcome_of summed
  answer_done out v z q = (simp (v, z), simp (v, z, ands, q))

  pub answer_short : (out : List ℕ) → valid head e a ≡ true → roomy (apertures_used head) words scratch ≡ false →
      out ≡ replicate words 0 → (Err summary_error.Short ≡ outcome_of head e a words scratch) × (out ≡ summed head e a words scratch)
  unfolding outcome_of summed
  answer_short out v z q = (simp (v, z), simp (v, z, ands, q))

  pub answer_not : (out : List ℕ) → valid head e a ≡ false → out ≡ replicate words 0 → (Err summary_error.NotSheet ≡ outcome_of head e a words scratch) × (out ≡ summed head e a words scratch)
  unfolding outcome_of summed
  answer_not out v q = (simp v, simp (v, ands, q))
