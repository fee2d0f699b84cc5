-- The answers, from what a valid store's counts and the descent say.
-- Assumes nothing.
use Rattle.std.specs.Prelude.{None, Some, Err, Ok}
use Prim.Native.Nat.{ℕ, ◌≤◌, ◌<◌}
use native.Mathlib.Omega.{arith}
use mathlib.Core.Path.{◌≡◌, sym}
use mathlib.Core.Bool.{true, false}
use mathlib.Core.List.{List, []}
use lib.ListN.{get_or, replicate}
use borrow.Author.Tests.{lt-ltb, le-ltb}
use Rattle.place.specs.declared.Item.{Item}
use Rattle.place.specs.Item.{zero_item}
use Rattle.sheet.specs.Containers.{top_of}
use Rattle.sheet.specs.Meaning.{items, sheet_items}
use Rattle.sheet.specs.Valid.{valid}
use Rattle.sheet.proofs.Sound.{top_sound}
use Rattle.sheet.proofs.Expand.{length_sheet}
use Rattle.descend.specs.Search.{Asked, Whole}
use Rattle.descend.specs.Answers.{total_of, answer_of}
use Rattle.descend.specs.Slots.{slots, fetch_of, fetched}
use Rattle.descend.proofs.Slots.{slots_past}
use Rattle.descend.specs.declared.Unanswered.TheVariants as unanswered

module _ (head e a : List ℕ) where
  pub total_is : valid head e a ≡ true → Some (top_of head).items ≡ total_of head e a
  unfolding total_of
  total_is v = simp (v, length_sheet head e a v)

  pub total_not : valid head e a ≡ false → None ≡ total_of head e a
  unfolding total_of
  total_not v = simp v

  pub asked_top : (n : ℕ) → valid head e a ≡ true → n < (top_of head).items → Asked e a 10 (top_of head) n
  asked_top n v l =
      let s = top_sound head e a v in
      record { held = record { head = head; ok = v; sound = s; inside = l }; high = s.high }

  pub answer_is : (n : ℕ) (t : Item) → valid head e a ≡ true → n < (top_of head).items → t ≡ get_or (items e a 10 (top_of head)) n zero_item → Ok t ≡ answer_of head e a n
  unfolding answer_of sheet_items
  answer_is n t v l q = simp (v, length_sheet head e a v, lt-ltb _ _ l, q)

  pub answer_past : (n : ℕ) → valid head e a ≡ true → (top_of head).items ≤ n → Err unanswered.Past ≡ answer_of head e a n
  unfolding answer_of
  answer_past n v l = simp (v, length_sheet head e a v, le-ltb _ _ l)

  pub answer_not : (n : ℕ) → valid head e a ≡ false → Err unanswered.NotSheet ≡ answer_of head e a n
  unfolding answer_of
  answer_not n v = simp v

  pub whole_top : (n : ℕ) → valid head e a ≡ true → n < (top_of head).items → Whole e a (top_of head) n
  whole_top n v l = record { head = head; ok = v; sound = top_sound head e a v; starts = omega arith }

  -- the run call: what it answers, and what the lent words hold
  pub fetch_done : (n w : ℕ) (out : List ℕ) → valid head e a ≡ true → n < (top_of head).items → out ≡ slots (items e a 10 (top_of head)) n w →
      (Ok _ ≡ fetch_of head e a n) × (out ≡ fetched head e a n w)
  unfolding fetch_of fetched sheet_items
  fetch_done n w out v l q = (simp (v, length_sheet head e a v, lt-ltb _ _ l), simp (v, q))

  pub fetch_past : (n w : ℕ) (out : List ℕ) → valid head e a ≡ true → (top_of head).items ≤ n → out ≡ replicate w 0 →
      (Err unanswered.Past ≡ fetch_of head e a n) × (out ≡ fetched head e a n w)
  unfolding fetch_of fetched
  fetch_past n w out v l q =
      let long = length_sheet head e a v in
      (simp (v, long, le-ltb _ _ l), simp (v, q) (sym (slots_past (sheet_items head e a) n w (omega arith))))

  pub fetch_not : (n w : ℕ) (out : List ℕ) → valid head e a ≡ false → out ≡ replicate w 0 → (Err unanswered.NotSheet ≡ fetch_of head e a n) × (out ≡ fetched head e a n w)
  unfolding fetch_of fetched
  fetch_not n w out v q = (simp v, simp (v, q) (sym (slots_past [] n w (omega arith))))
