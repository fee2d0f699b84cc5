-- Items as words (docs/SHEET.md), and a run of them in a lent slice.
use Rattle.std.specs.Prelude.{ℕ, ◌/◌, ◌%◌, cond, List, [], ◌∷◌, ◌++◌, ltb, length, get_or, replicate, Err, Ok, Result, ⊤}
use Rattle.std.specs.Int.{w64}
use Rattle.std.proofs.Common.{of_z}
use Rattle.base.specs.Run.{run}
use Rattle.place.specs.declared.Item.{Item}
use Rattle.place.specs.Item.{item_width, zero_item}
use Rattle.sheet.specs.Meaning.{flag_word, sheet_items}
use Rattle.sheet.specs.Valid.{valid}
use Rattle.descend.specs.declared.Unanswered.TheVariants as unanswered
use Rattle.descend.specs.declared.Unanswered.{Unanswered}

-- coordinates in two's complement (decision 201)
unfoldable pub item_words : Item → List ℕ
item_words t =
    t.kind ∷ t.aperture ∷ flag_word t.clear ∷ flag_word t.flip ∷ t.angle ∷ t.scale
    ∷ of_z w64 t.start.x ∷ of_z w64 t.start.y
    ∷ of_z w64 t.end.x ∷ of_z w64 t.end.y
    ∷ of_z w64 t.centre.x ∷ of_z w64 t.centre.y
    ∷ t.count ∷ t.place ∷ t.outer ∷ []

-- item i, "slots past the total become zero items" (01, Items)
unfoldable pub slot : List Item → ℕ → List ℕ
slot ts i = item_words (get_or ts i zero_item)

-- items k, k + 1, .. in as many slots as the words have room for; words past the last whole slot are 0
unfoldable pub slots : List Item → ℕ → ℕ → List ℕ
slots ts k words = run (slot ts) k (words / item_width) ++ replicate (words % item_width) 0

-- the answer, "21 comes before 20"
unfoldable pub fetch_of : List ℕ → List ℕ → List ℕ → ℕ → Result ⊤ Unanswered
fetch_of head e a k = cond (valid head e a) (cond (ltb k (length (sheet_items head e a))) (Ok _) (Err unanswered.Past)) (Err unanswered.NotSheet)

-- document 01's numbers
unfoldable pub fetch_number : Result ⊤ Unanswered → ℕ
fetch_number (Ok _) = 0
fetch_number (Err unanswered.Past) = 20
fetch_number (Err unanswered.NotSheet) = 21

-- what the lent words hold afterwards: a store that is no sheet has no item, so "20 and 21 zero the .. list"
unfoldable pub fetched : List ℕ → List ℕ → List ℕ → ℕ → ℕ → List ℕ
fetched head e a k words = slots (cond (valid head e a) (sheet_items head e a) []) k words
