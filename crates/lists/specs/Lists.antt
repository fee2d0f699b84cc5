-- A lent list of items, and what a call for a run of them leaves in it (01, Items).
use Rattle.std.specs.Prelude.{ℕ, ◌-◌, cond, List, [], ◌∷◌, ◌++◌, get_or, replicate}
use Rattle.base.specs.Run.{run}
use Rattle.place.specs.declared.Item.{Item}
use Rattle.place.specs.Item.{zero_item}
use Rattle.sheet.specs.Meaning.{sheet_items}
use Rattle.sheet.specs.Valid.{valid}
use Rattle.lists.specs.declared.Batch.{Batch}
use Rattle.descend.specs.Slots.{item_words, fetch_of, fetch_number}

-- the number that a call answers: 21 for a store that is no sheet, 20 from the total on, 0 otherwise
unfoldable pub number_of : List ℕ → List ℕ → List ℕ → ℕ → ℕ
number_of head e a k = fetch_number (fetch_of head e a k)

-- the items that can be answered: a store that is no sheet has none
unfoldable pub held : List ℕ → List ℕ → List ℕ → List Item
held head e a = cond (valid head e a) (sheet_items head e a) []

-- item i, "slots past the total become zero items"
unfoldable pub slot_of : List Item → ℕ → Item
slot_of ts i = get_or ts i zero_item

-- items k, k + 1, .. in n slots
unfoldable pub listed : List Item → ℕ → ℕ → List Item
listed ts k n = run (λ i. slot_of ts i ∷ []) k n

-- the lent list of n slots afterwards; "20 and 21 zero the .. list" since there is no item to put in
unfoldable pub filled : List ℕ → List ℕ → List ℕ → ℕ → ℕ → List Item
filled head e a k n = listed (held head e a) k n

-- eight slots by value: m of them filled, the others zero items
unfoldable pub batch_of : List ℕ → List ℕ → List ℕ → ℕ → ℕ → Batch
batch_of head e a k m = record { number = number_of head e a k; items = filled head e a k m ++ replicate (8 - m) zero_item }

-- the words of items, one after the other (docs/SHEET.md)
unfoldable pub words_of : List Item → List ℕ
words_of [] = []
words_of (t ∷ ts) = item_words t ++ words_of ts
