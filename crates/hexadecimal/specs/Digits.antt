-- Hexadecimal digits as a sender may write them (02, request [2]: "either case").
use Rattle.std.specs.Prelude.{ℕ, ◌+◌, Bool, true, cond, List, [], ◌∷◌, map}
use Rattle.base.specs.And.{◌and◌}
use Rattle.base.specs.Or.{◌or◌}
use Rattle.base.specs.Bytes.{same_bytes}
use Rattle.text.specs.Name.{range}

unfoldable pub hex_digit : ℕ → Bool
hex_digit b = range "0" "9" b or range "A" "F" b or range "a" "f" b

unfoldable pub hex_digits : List ℕ → Bool
hex_digits [] = true
hex_digits (b ∷ s) = hex_digit b and hex_digits s

-- a capital as the small letter
unfoldable pub small : ℕ → ℕ
small b = cond (range "A" "F" b) (b + 32) b

-- the same digits as w, which has small letters
unfoldable pub same_digits : List ℕ → List ℕ → Bool
same_digits s w = same_bytes (map small s) w
