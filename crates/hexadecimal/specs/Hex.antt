-- Bytes in hexadecimal digits, two a byte.
use Rattle.std.specs.Prelude.{ℕ, ◌+◌, ◌/◌, ◌%◌, cond, List, [], ◌∷◌, ltb}

-- 0 to 9, then a to f
unfoldable pub digit : ℕ → ℕ
digit n = cond (ltb n 10) (48 + n) (87 + n)

unfoldable pub hex_of : List ℕ → List ℕ
hex_of [] = []
hex_of (b ∷ s) = digit (b / 16) ∷ digit (b % 16) ∷ hex_of s
