-- A run of one slot: item k's words, or a zero item's where it is refused; and its number.
-- Assumes nothing.
use Prim.Native.Nat.{ℕ}
use mathlib.Core.Path.{◌≡◌, refl, ◌∙◌, ap}
use mathlib.Core.Bool.{Bool, true, false, cond}
use mathlib.Core.List.{List, []}
use lib.Dec.{ltb}
use lib.ListN.{length, get_or, get_or-eq_default}
use borrow.Author.Tests.{ltb-false}
use Rattle.base.specs.Run.{run}
use Rattle.place.specs.declared.Item.{Item}
use Rattle.place.specs.Item.{item_width, zero_item}
use Rattle.sheet.specs.Meaning.{sheet_items}
use Rattle.sheet.specs.Valid.{valid}
use Rattle.descend.specs.Answers.{answer_of, answer_number, answer_item}
use Rattle.descend.specs.Slots.{item_words, slot, slots, fetch_of, fetch_number, fetched}

-- one slot
one_slot : (ts : List Item) (k : ℕ) → slots ts k item_width ≡ item_words (get_or ts k zero_item)
unfolding slots slot run item_words
one_slot ts k = refl

-- the item answered, whether the store is a sheet (v) and whether k is below its total (b) being known
item_answered : (head e a : List ℕ) (k : ℕ) (v b : Bool) → valid head e a ≡ v → ltb k (length (sheet_items head e a)) ≡ b
    → get_or (cond (valid head e a) (sheet_items head e a) []) k zero_item ≡ answer_item (answer_of head e a k)
unfolding answer_of answer_item
item_answered head e a k true true p q = rw (p, q)
item_answered head e a k true false p q = rw (p, q) (get_or-eq_default (sheet_items head e a) zero_item {n = k} (ltb-false _ _ q))
item_answered head e a k false b p q = rw p

pub one_item : (head e a : List ℕ) (k : ℕ) → fetched head e a k item_width ≡ item_words (answer_item (answer_of head e a k))
unfolding fetched
one_item head e a k = one_slot _ k ∙ ap item_words (item_answered head e a k _ _ refl refl)

number_answered : (head e a : List ℕ) (k : ℕ) (v b : Bool) → valid head e a ≡ v → ltb k (length (sheet_items head e a)) ≡ b
    → fetch_number (fetch_of head e a k) ≡ answer_number (answer_of head e a k)
unfolding answer_of answer_number fetch_of fetch_number
number_answered head e a k true true p q = rw (p, q)
number_answered head e a k true false p q = rw (p, q)
number_answered head e a k false b p q = rw p

pub one_number : (head e a : List ℕ) (k : ℕ) → fetch_number (fetch_of head e a k) ≡ answer_number (answer_of head e a k)
one_number head e a k = number_answered head e a k _ _ refl refl
