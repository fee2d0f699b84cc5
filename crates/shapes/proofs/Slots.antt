-- A run of primitives in a lent slice: slot after slot, to the room's or the primitives' end; and runs that join.
-- Assumes nothing.
use Prim.Native.Nat.{ℕ, zero, suc, ◌+◌, ◌-◌, ◌*◌, ◌/◌, ◌%◌, ◌≤◌}
use mathlib.Core.Path.{◌≡◌, refl, sym, ap, ◌∙◌}
use mathlib.Core.List.{List, ◌++◌, append_assoc, append-nil}
use native.Mathlib.Nat.{zero-add, add-zero}
use native.Mathlib.Numerals.{add-one}
use native.Mathlib.Omega.{arith}
use lib.ListN.{length, get_or, drop, replicate, length-replicate, replicate-append-replicate, get_or-eq_default}
use lib.Seq.{take_at, drop_at, drop-append-add, get_or-drop}
use Rattle.base.specs.Run.{run}
use Rattle.base.proofs.Run.{run_snoc, run_cong, length_copies}
use Rattle.sheet.specs.Records.{stored}
use Rattle.shapes.specs.declared.Primitive.{Primitive}
use Rattle.shapes.specs.Runs.{primitive_width, primitive_words, zero_primitive, slot, slots}

-- a run of n pieces and one of m from where it ends are a run of n + m
run_join : {A : Type 0} (f : ℕ → List A) (k n m : ℕ) → run f k n ++ run f (k + n) m ≡ run f k (n + m)
unfolding run
run_join f k zero m = rw (add-zero k, zero-add m)
run_join f k (suc n) m =
    let p : k + suc n ≡ suc k + n = omega arith in
    let q : suc n + m ≡ suc (n + m) = omega arith in
    rw (p, q, append_assoc (f k) (run f (suc k) n) (run f (suc k + n) m)) (ap (λ l. f k ++ l) (run_join f (suc k) n m))

words_long : (p : Primitive) → length (primitive_words p) ≡ primitive_width
unfolding primitive_words
words_long p = refl

zero_words : primitive_words zero_primitive ≡ replicate primitive_width 0
unfolding primitive_words zero_primitive
zero_words = refl

drop_zeros : (n m : ℕ) → drop n (replicate {A = ℕ} (n + m) 0) ≡ replicate m 0
drop_zeros n m = rw (← replicate-append-replicate {A = ℕ} n m 0) (drop_at (replicate n 0) (replicate m 0) n (length-replicate n 0))

module _ (ps : List Primitive) (k : ℕ) where
  part_long : (j : ℕ) → length (run (slot ps) k j) ≡ j * primitive_width
  unfolding slot
  part_long j = length_copies (slot ps) primitive_width k j (λ i l. words_long _)

  -- j slots are filled, and the rest is 0
  pub filled : ℕ → ℕ → List ℕ
  filled words j = run (slot ps) k j ++ replicate (words - j * primitive_width) 0

  pub filled_none : (words : ℕ) → replicate words 0 ≡ filled words 0
  unfolding filled run
  filled_none words = let r : words - 0 * primitive_width ≡ words = omega arith in rw r

  pub filled_more : (words j : ℕ) → (j + 1) * primitive_width ≤ words →
      stored (filled words j) (j * primitive_width) (primitive_words (get_or ps (k + j) zero_primitive)) ≡ filled words (j + 1)
  unfolding stored filled slot
  filled_more words j l =
      let r : words - j * primitive_width ≡ primitive_width + (words - (j + 1) * primitive_width) = omega arith in
      let part = part_long j in
      let w = words_long (get_or ps (k + j) zero_primitive) in
      let front = take_at (run (slot ps) k j) (replicate {A = ℕ} (words - j * primitive_width) 0) (j * primitive_width) part in
      let back = rw part at (drop-append-add (run (slot ps) k j) (replicate {A = ℕ} (words - j * primitive_width) 0) primitive_width) in
      let zeros = drop_zeros primitive_width (words - (j + 1) * primitive_width) in
      rw (w, front, back, r, zeros, add-one j, run_snoc (slot ps) k j)

  -- past the last primitive the slots are 0
  past : (i n : ℕ) → length ps ≤ i → run (slot ps) i n ≡ replicate (n * primitive_width) 0
  unfolding run slot
  past i zero l = refl
  past i (suc n) l =
      let q : suc n * primitive_width ≡ primitive_width + n * primitive_width = omega arith in
      rw (q, get_or-eq_default ps zero_primitive l, zero_words, past (suc i) n (omega arith))
      (replicate-append-replicate primitive_width (n * primitive_width) 0)

  pub filled_whole : (words j : ℕ) → j ≡ words / primitive_width → filled words j ≡ slots ps k words
  unfolding filled slots
  filled_whole words j e =
      let r : words - j * primitive_width ≡ words % primitive_width = omega arith in
      rw (r, e)

  pub filled_past : (words j : ℕ) → j ≤ words / primitive_width → length ps ≤ k + j → filled words j ≡ slots ps k words
  unfolding filled slots
  filled_past words j l q =
      let r : words / primitive_width ≡ j + (words / primitive_width - j) = omega arith in
      let s : words - j * primitive_width ≡ (words / primitive_width - j) * primitive_width + words % primitive_width = omega arith in
      rw (r, ← run_join (slot ps) k j (words / primitive_width - j), past (k + j) (words / primitive_width - j) q, append_assoc, replicate-append-replicate, s)

  -- past the last, all words are 0
  pub slots_past : (words : ℕ) → length ps ≤ k → slots ps k words ≡ replicate words 0
  slots_past words l = sym (filled_past words 0 (omega arith) (omega arith)) ∙ sym (filled_none words)

  -- what is left after the first k, from its start
  pub slots_behind : (words : ℕ) → slots (drop k ps) 0 words ≡ slots ps k words
  unfolding slots slot
  slots_behind words =
      let e = run_cong (slot (drop k ps)) (slot ps) 0 k (words / primitive_width) (λ i l. ap primitive_words (rw (zero-add i) (get_or-drop k ps i zero_primitive))) in
      rw e

-- runs join: n slots from primitive k on, and m from primitive k + n on, are n + m slots
pub slots_join : (ps : List Primitive) (k n m : ℕ) → slots ps k (n * primitive_width) ++ slots ps (k + n) (m * primitive_width) ≡ slots ps k ((n + m) * primitive_width)
unfolding slots
slots_join ps k n m =
    let a : n * primitive_width / primitive_width ≡ n = omega arith in
    let b : m * primitive_width / primitive_width ≡ m = omega arith in
    let c : (n + m) * primitive_width / primitive_width ≡ n + m = omega arith in
    let d : n * primitive_width % primitive_width ≡ 0 = omega arith in
    let e : m * primitive_width % primitive_width ≡ 0 = omega arith in
    let f : (n + m) * primitive_width % primitive_width ≡ 0 = omega arith in
    rw (a, b, c, d, e, f) (simp append-nil (run_join (slot ps) k n m))
