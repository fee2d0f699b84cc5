-- What the calls answer, of the store's own expansion (01, "Numbers the reader answers": 20 and 21).
use Rattle.std.specs.Prelude.{ℕ, cond, List, ltb, length, get_or, None, Option, Some, Err, Ok, Result}
use Rattle.place.specs.declared.Item.{Item}
use Rattle.place.specs.Item.{zero_item}
use Rattle.sheet.specs.Meaning.{sheet_items}
use Rattle.sheet.specs.Valid.{valid}
use Rattle.descend.specs.declared.Unanswered.TheVariants as unanswered
use Rattle.descend.specs.declared.Unanswered.{Unanswered}

-- the number of items
unfoldable pub total_of : List ℕ → List ℕ → List ℕ → Option ℕ
total_of head e a = cond (valid head e a) (Some (length (sheet_items head e a))) None

-- item n; "21 comes before 20"
unfoldable pub answer_of : List ℕ → List ℕ → List ℕ → ℕ → Result Item Unanswered
answer_of head e a n =
    cond (valid head e a)
    (cond (ltb n (length (sheet_items head e a))) (Ok (get_or (sheet_items head e a) n zero_item)) (Err unanswered.Past))
    (Err unanswered.NotSheet)

-- document 01's numbers, and the values with them: "20 and 21 zero the lent item ..; a total is 0"
unfoldable pub total_number : Option ℕ → ℕ
total_number (Some n) = 0
total_number None = 21

unfoldable pub total_value : Option ℕ → ℕ
total_value (Some n) = n
total_value None = 0

unfoldable pub answer_number : Result Item Unanswered → ℕ
answer_number (Ok t) = 0
answer_number (Err unanswered.Past) = 20
answer_number (Err unanswered.NotSheet) = 21

unfoldable pub answer_item : Result Item Unanswered → Item
answer_item (Ok t) = t
answer_item (Err unanswered.Past) = zero_item
answer_item (Err unanswered.NotSheet) = zero_item
