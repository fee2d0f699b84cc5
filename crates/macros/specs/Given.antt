-- "A variable never set is 0"; an AD's parameters set $1, $2 and so on (01, Macros; decision 72).
use Rattle.std.specs.Prelude.{ℕ, ◌+◌, List, [], ◌∷◌, ℤ, pos, set, replicate}
use Prim.Native.Char.{code}
use Rattle.command.specs.Numbers.{size_of}
use Rattle.text.specs.Pieces.{pieces}

unfoldable pub given : ℕ → List ℤ → List (List ℕ) → List ℤ
given i variables [] = variables
given i variables (t ∷ ts) = given (i + 1) (set variables i (size_of t).value.millionths) ts

-- the parameters' text, from its comma on
unfoldable pub variables_of : List ℕ → List ℤ
variables_of s = given 0 (replicate 64 (pos 0)) (pieces (code "X") s)
