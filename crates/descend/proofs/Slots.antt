-- A run of items in a lent slice: slot after slot, to the room's or the items' end; and runs that join.
-- Assumes nothing.
use Prim.Native.Nat.{ℕ, zero, suc, ◌+◌, ◌-◌, ◌*◌, ◌/◌, ◌%◌, ◌≤◌}
use mathlib.Core.Path.{◌≡◌, refl, sym, ap, ◌∙◌}
use mathlib.Core.List.{List, ◌++◌, append_assoc, append-nil}
use native.Mathlib.Nat.{zero-add, add-zero}
use native.Mathlib.Numerals.{add-one}
use native.Mathlib.Omega.{arith}
use lib.ListN.{length, get_or, drop, replicate, length-replicate, replicate-append-replicate, get_or-eq_default}
use lib.Seq.{take_at, drop_at, drop-append-add}
use Rattle.base.specs.Run.{run}
use Rattle.base.proofs.Run.{run_snoc, length_copies}
use Rattle.place.specs.declared.Item.{Item}
use Rattle.place.specs.Item.{item_width, zero_item}
use Rattle.sheet.specs.Records.{stored}
use Rattle.sheet.specs.Meaning.{flag_word}
use Rattle.descend.specs.Slots.{item_words, slot, slots}

-- a run of n pieces and one of m from where it ends are a run of n + m
pub run_join : {A : Type 0} (f : ℕ → List A) (k n m : ℕ) → run f k n ++ run f (k + n) m ≡ run f k (n + m)
unfolding run
run_join f k zero m = rw (add-zero k, zero-add m)
run_join f k (suc n) m =
    let p : k + suc n ≡ suc k + n = omega arith in
    let q : suc n + m ≡ suc (n + m) = omega arith in
    rw (p, q, append_assoc (f k) (run f (suc k) n) (run f (suc k + n) m)) (ap (λ l. f k ++ l) (run_join f (suc k) n m))

words_long : (t : Item) → length (item_words t) ≡ item_width
unfolding item_words
words_long t = refl

zero_words : item_words zero_item ≡ replicate item_width 0
unfolding item_words zero_item flag_word
zero_words = refl

drop_zeros : (n m : ℕ) → drop n (replicate {A = ℕ} (n + m) 0) ≡ replicate m 0
drop_zeros n m = rw (← replicate-append-replicate {A = ℕ} n m 0) (drop_at (replicate n 0) (replicate m 0) n (length-replicate n 0))

module _ (ts : List Item) (k : ℕ) where
  part_long : (j : ℕ) → length (run (slot ts) k j) ≡ j * item_width
  unfolding slot
  part_long j = length_copies (slot ts) item_width k j (λ i l. words_long _)

  -- j slots are filled, and the rest is 0
  pub filled : ℕ → ℕ → List ℕ
  filled words j = run (slot ts) k j ++ replicate (words - j * item_width) 0

  pub filled_none : (words : ℕ) → replicate words 0 ≡ filled words 0
  unfolding filled run
  filled_none words = let r : words - 0 * item_width ≡ words = omega arith in rw r

  pub filled_more : (words j : ℕ) → (j + 1) * item_width ≤ words →
      stored (filled words j) (j * item_width) (item_words (get_or ts (k + j) zero_item)) ≡ filled words (j + 1)
  unfolding stored filled slot
  filled_more words j l =
      let r : words - j * item_width ≡ item_width + (words - (j + 1) * item_width) = omega arith in
      let part = part_long j in
      let w = words_long (get_or ts (k + j) zero_item) in
      let front = take_at (run (slot ts) k j) (replicate {A = ℕ} (words - j * item_width) 0) (j * item_width) part in
      let back = rw part at (drop-append-add (run (slot ts) k j) (replicate {A = ℕ} (words - j * item_width) 0) item_width) in
      let zeros = drop_zeros item_width (words - (j + 1) * item_width) in
      rw (w, front, back, r, zeros, add-one j, run_snoc (slot ts) k j)

  -- past the last item the slots are 0
  past : (i n : ℕ) → length ts ≤ i → run (slot ts) i n ≡ replicate (n * item_width) 0
  unfolding run slot
  past i zero l = refl
  past i (suc n) l =
      let q : suc n * item_width ≡ item_width + n * item_width = omega arith in
      rw (q, get_or-eq_default ts zero_item l, zero_words, past (suc i) n (omega arith))
      (replicate-append-replicate item_width (n * item_width) 0)

  pub filled_whole : (words j : ℕ) → j ≡ words / item_width → filled words j ≡ slots ts k words
  unfolding filled slots
  filled_whole words j e =
      let r : words - j * item_width ≡ words % item_width = omega arith in
      rw (r, e)

  pub filled_past : (words j : ℕ) → j ≤ words / item_width → length ts ≤ k + j → filled words j ≡ slots ts k words
  unfolding filled slots
  filled_past words j l q =
      let r : words / item_width ≡ j + (words / item_width - j) = omega arith in
      let s : words - j * item_width ≡ (words / item_width - j) * item_width + words % item_width = omega arith in
      rw (r, ← run_join (slot ts) k j (words / item_width - j), past (k + j) (words / item_width - j) q, append_assoc, replicate-append-replicate, s)

  -- past the total, all words are 0
  pub slots_past : (words : ℕ) → length ts ≤ k → slots ts k words ≡ replicate words 0
  slots_past words l = sym (filled_past words 0 (omega arith) (omega arith)) ∙ sym (filled_none words)

-- runs join: n slots from item k on, and m from item k + n on, are n + m slots
pub slots_join : (ts : List Item) (k n m : ℕ) → slots ts k (n * item_width) ++ slots ts (k + n) (m * item_width) ≡ slots ts k ((n + m) * item_width)
unfolding slots
slots_join ts k n m =
    let a : n * item_width / item_width ≡ n = omega arith in
    let b : m * item_width / item_width ≡ m = omega arith in
    let c : (n + m) * item_width / item_width ≡ n + m = omega arith in
    let d : n * item_width % item_width ≡ 0 = omega arith in
    let e : m * item_width % item_width ≡ 0 = omega arith in
    let f : (n + m) * item_width % item_width ≡ 0 = omega arith in
    rw (a, b, c, d, e, f) (simp append-nil (run_join (slot ts) k n m))
