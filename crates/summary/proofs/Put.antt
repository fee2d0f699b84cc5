-- Rows put one after the other: the rows kept of all records, and with the regions' row the summary.
-- Assumes nothing.
use Prim.Native.Nat.{ℕ, ◌+◌, ◌-◌, ◌*◌, ◌≤◌, ◌<◌}
use mathlib.Core.Path.{◌≡◌, sym, ap, ◌∙◌}
use mathlib.Core.List.{List, ◌++◌}
use native.Mathlib.Nat.{zero-add}
use native.Mathlib.Numerals.{add-one}
use native.Mathlib.Omega.{arith}
use lib.ListN.{length, replicate}
use Rattle.base.specs.Run.{run}
use Rattle.base.proofs.Run.{run_snoc, run_cong, length_copies}
use Rattle.place.specs.declared.Item.{Item}
use Rattle.sheet.specs.Records.{stored}
use Rattle.summary_rows.specs.Summed.{row_of}
use Rattle.summary_rows.specs.declared.Asked.TheVariants.{Regions}
use Rattle.summary_by_aperture.specs.Kept.{row_width, row_words, row_at}
use Rattle.summary_by_aperture.specs.Answers.{aperture_row, summary_words}
use Rattle.summary_by_aperture.proofs.Kept.{words_long}
use Rattle.summary_by_aperture.proofs.Answers.{put_behind, rows_put, put_last}
use Rattle.summary.specs.Adds.{asked_by, put_rows}

module _ (s : List ℕ) where
  part_long : (j : ℕ) → length (run (λ b. row_words (row_at s b)) 0 j) ≡ j * row_width
  part_long j = length_copies (λ b. row_words (row_at s b)) 5 0 j (λ i l. words_long _)

  pub rows_none : (words : ℕ) → replicate words 0 ≡ put_rows s 0 words
  unfolding put_rows run
  rows_none words = let r : words - 0 * 5 ≡ words = omega arith in rw r

  pub rows_more : (words j : ℕ) → (j + 1) * row_width ≤ words → stored (put_rows s j words) (j * row_width) (row_words (row_at s j)) ≡ put_rows s (j + 1) words
  unfolding put_rows
  rows_more words j h =
      let long = words_long (row_at s j) in
      let room : words - (j * 5 + length (row_words (row_at s j))) ≡ words - (j + 1) * 5 = omega arith in
      let snoc : run (λ b. row_words (row_at s b)) 0 j ++ row_words (row_at s j) ≡ run (λ b. row_words (row_at s b)) 0 (j + 1) =
      rw (add-one j) (sym (run_snoc (λ b. row_words (row_at s b)) 0 j ∙ ap (λ k. run (λ b. row_words (row_at s b)) 0 j ++ row_words (row_at s k)) (zero-add j))) in
      put_behind (run (λ b. row_words (row_at s b)) 0 j) (row_words (row_at s j)) (j * 5) words (part_long j) (omega arith)
      ∙ (λ i. snoc i ++ replicate (room i) 0)

  -- the rows are those of the items
  pub rows_last : (ts : List Item) (a : List ℕ) (words n : ℕ) → ((b : ℕ) → b < n → row_at s b ≡ row_of (asked_by a b) ts) → (n + 1) * row_width ≤ words →
      stored (put_rows s n words) (n * row_width) (row_words (row_of Regions ts)) ≡ summary_words ts a n words
  unfolding put_rows rows_put aperture_row
  rows_last ts a words n h room =
      let same : run (λ b. row_words (row_at s b)) 0 n ≡ run (aperture_row ts a) 0 n = run_cong _ _ 0 0 n (λ i l. ap row_words (ap (row_at s) (zero-add i) ∙ h i l ∙ ap (λ (b : ℕ). row_of (asked_by a b) ts) (sym (zero-add i)))) in
      ap (λ (l : List ℕ). stored (l ++ replicate (words - n * 5) 0) (n * 5) (row_words (row_of Regions ts))) same ∙ put_last ts a words n room
