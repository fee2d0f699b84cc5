-- "The k below the total and the valid addresses match one to one, and the two calls undo each other" (02, request [12]).
use Rattle.std.specs.Prelude.{ℕ, cond, List, eqb, ltb, length, replicate}
use Rattle.sheet.specs.Meaning.{sheet_items}
use Rattle.sheet.specs.Valid.{valid}
use Rattle.address.specs.Answers.{reply_of}
use Rattle.address.specs.declared.Reply.{Reply}

-- k, its address, and what that names: k again
unfoldable pub item_again : List ℕ → List ℕ → List ℕ → ℕ → Reply
item_again head e a k =
    cond (valid head e a)
    (cond (ltb k (length (sheet_items head e a))) (record { number = 0; item = k }) (record { number = 20; item = 0 }))
    (record { number = 21; item = 0 })

-- an address, what it names, and the address of that: the address again
unfoldable pub address_again : List ℕ → List ℕ → List ℕ → List ℕ → List ℕ
address_again head e a w = cond (eqb (reply_of head e a w).number 0) w (replicate 10 0)
