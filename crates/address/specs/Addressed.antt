-- What the call for an item's address answers (02, request [12]: "21, 20 for a k at or past the total .. with a zeroed address").
use Rattle.std.specs.Prelude.{ℕ, cond, List, ltb, length, get_or, replicate}
use Rattle.sheet.specs.Meaning.{sheet_items}
use Rattle.sheet.specs.Valid.{valid}
use Rattle.law_addresses.specs.Addresses.{sheet_addresses}

-- "21 comes before 20"
unfoldable pub address_number : List ℕ → List ℕ → List ℕ → ℕ → ℕ
address_number head e a k = cond (valid head e a) (cond (ltb k (length (sheet_items head e a))) 0 20) 21

-- address k of the sheet's addresses, zeros where there is none
unfoldable pub address_words : List ℕ → List ℕ → List ℕ → ℕ → List ℕ
address_words head e a k = cond (valid head e a) (get_or (sheet_addresses head e a) k (replicate 10 0)) (replicate 10 0)
