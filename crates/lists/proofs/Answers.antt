-- The number and the slots, from what a valid store's counts and the descent say.
-- Assumes nothing.
use Rattle.std.specs.Prelude.{Err, Ok}
use Prim.Native.Nat.{ℕ, ◌+◌, ◌≤◌, ◌<◌}
use native.Mathlib.Omega.{arith}
use mathlib.Core.Path.{◌≡◌, refl, sym, ◌∙◌}
use mathlib.Core.Bool.{Bool, true, false, cond}
use mathlib.Core.List.{List, []}
use lib.Dec.{ltb}
use lib.ListN.{length, get_or, get_or-eq_default}
use borrow.Author.Tests.{lt-ltb, le-ltb, ltb-true, ltb-false}
use Rattle.place.specs.declared.Item.{Item}
use Rattle.place.specs.Item.{zero_item}
use Rattle.sheet.specs.Containers.{top_of}
use Rattle.sheet.specs.Meaning.{items, sheet_items}
use Rattle.sheet.specs.Valid.{valid}
use Rattle.sheet.proofs.Expand.{length_sheet}
use Rattle.descend.specs.Slots.{fetch_of, fetch_number}
use Rattle.lists.specs.Lists.{number_of, held, slot_of}
use Rattle.descend.specs.declared.Unanswered.TheVariants as unanswered

-- 0 is the number of the one way out where both tests hold
both_hold : (v l : Bool) → fetch_number (cond v (cond l (Ok _) (Err unanswered.Past)) (Err unanswered.NotSheet)) ≡ 0 → (v ≡ true) × (l ≡ true)
unfolding fetch_number
both_hold true true n = (refl, refl)
both_hold true false n = absurd (omega arith)
both_hold false l n = absurd (omega arith)

fails : (l : Bool) → (fetch_number (cond l (Ok _) (Err unanswered.Past)) ≡ 0 → ⊥) → l ≡ false
unfolding fetch_number
fails true nz = absurd (nz refl)
fails false nz = refl

none_from : (v : Bool) (ts : List Item) (k : ℕ) → (fetch_number (cond v (cond (ltb k (length ts)) (Ok _) (Err unanswered.Past)) (Err unanswered.NotSheet)) ≡ 0 → ⊥) → length (cond v ts []) ≤ k
none_from true ts k nz = ltb-false k (length ts) (fails (ltb k (length ts)) nz)
none_from false ts k nz = omega arith

past_slot : (ts : List Item) (i : ℕ) → length ts ≤ i → zero_item ≡ slot_of ts i
unfolding slot_of
past_slot ts i l = sym (get_or-eq_default ts zero_item l)

module _ (head e a : List ℕ) where
  pub number_done : (k : ℕ) → valid head e a ≡ true → k < (top_of head).items → 0 ≡ number_of head e a k
  unfolding number_of fetch_of fetch_number
  number_done k v l = simp (v, length_sheet head e a v, lt-ltb _ _ l)

  pub number_past : (k : ℕ) → valid head e a ≡ true → (top_of head).items ≤ k → 20 ≡ number_of head e a k
  unfolding number_of fetch_of fetch_number
  number_past k v l = simp (v, length_sheet head e a v, le-ltb _ _ l)

  pub number_not : (k : ℕ) → valid head e a ≡ false → 21 ≡ number_of head e a k
  unfolding number_of fetch_of fetch_number
  number_not k v = simp v

  -- what the number 0 says: the store is a sheet, and has an item k
  pub is_valid : (k n : ℕ) → n ≡ number_of head e a k → n ≡ 0 → valid head e a ≡ true
  unfolding number_of fetch_of
  is_valid k n q z = (both_hold (valid head e a) (ltb k (length (sheet_items head e a))) (sym q ∙ z)).0

  pub is_inside : (k n : ℕ) → n ≡ number_of head e a k → n ≡ 0 → k < (top_of head).items
  unfolding number_of fetch_of
  is_inside k n q z =
      let b = both_hold (valid head e a) (ltb k (length (sheet_items head e a))) (sym q ∙ z) in
      rw (length_sheet head e a b.0) at (ltb-true k (length (sheet_items head e a)) b.1)

  -- the slot of an item that is there, and of one past the total
  pub slot_is : (i : ℕ) (t : Item) → valid head e a ≡ true → t ≡ get_or (items e a 10 (top_of head)) i zero_item → t ≡ slot_of (held head e a) i
  unfolding slot_of held sheet_items
  slot_is i t v q = q ∙ simp v

  pub slot_past : (i : ℕ) (t : Item) → valid head e a ≡ true → (top_of head).items ≤ i → t ≡ zero_item → t ≡ slot_of (held head e a) i
  unfolding held
  slot_past i t v l z =
      let long = length_sheet head e a v in
      z ∙ rw v (past_slot (sheet_items head e a) i (omega arith))

  -- where the call is refused, no item that can be answered stands at k or after
  pub none_behind : (k : ℕ) → (number_of head e a k ≡ 0 → ⊥) → length (held head e a) ≤ k
  unfolding number_of fetch_of held
  none_behind k nz = none_from (valid head e a) (sheet_items head e a) k nz

  pub slot_refused : (k i n : ℕ) (t : Item) → n ≡ number_of head e a k → (n ≡ 0 → ⊥) → t ≡ zero_item → t ≡ slot_of (held head e a) (k + i)
  slot_refused k i n t q nz z =
      let none = none_behind k (λ u. nz (q ∙ u)) in
      z ∙ past_slot (held head e a) (k + i) (omega (arith, none))
