-- The words of an expression: a run of digits and points is one, with the `$` before it; any other byte is one by itself.
use Rattle.std.specs.Prelude.{ℕ, Bool, cond, List, [], ◌∷◌, get_or}
use Rattle.base.specs.And.{◌and◌}
use Rattle.base.specs.Or.{◌or◌}
use Rattle.digits.specs.Digits.{is_digit}
use Rattle.text.specs.Text.{byte}

unfoldable pub numeral : ℕ → Bool
numeral b = is_digit b or byte "." b

-- a numeral after it belongs to its word
unfoldable pub joins : ℕ → Bool
joins b = numeral b or byte "$" b

-- a byte before the words after it
unfoldable pub onto : ℕ → List (List ℕ) → List (List ℕ)
onto b [] = (b ∷ []) ∷ []
onto b (w ∷ ws) = cond (joins b and numeral (get_or w 0 0)) ((b ∷ w) ∷ ws) ((b ∷ []) ∷ w ∷ ws)

unfoldable pub words : List ℕ → List (List ℕ)
words [] = []
words (b ∷ s) = onto b (words s)
