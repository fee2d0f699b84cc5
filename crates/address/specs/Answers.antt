-- What the calls answer (02, request [12]: "21, 20 for a k at or past the total, 32 for an address that names nothing").
use Rattle.std.specs.Prelude.{ℕ, cond, List, None, Option, Some}
use Rattle.sheet.specs.Valid.{valid}
use Rattle.law_addresses.specs.Addresses.{sheet_addresses, place_of}
use Rattle.address.specs.declared.Reply.{Reply}

-- the item that is named, "with a zeroed .. number" where none is
unfoldable pub reply_as : Option ℕ → Reply
reply_as (Some n) = record { number = 0; item = n }
reply_as None = record { number = 32; item = 0 }

-- the place of an address among the addresses of the sheet's items
unfoldable pub reply_of : List ℕ → List ℕ → List ℕ → List ℕ → Reply
reply_of head e a w = cond (valid head e a) (reply_as (place_of w (sheet_addresses head e a))) (record { number = 21; item = 0 })
