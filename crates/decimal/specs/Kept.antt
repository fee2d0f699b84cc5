-- What the code keeps of a decimal: six digits after the point, and what the seventh adds. That these make the rounded size is a law
-- (proofs/Rounding).
use Rattle.std.specs.Prelude.{ℕ, ◌+◌, ◌*◌, ◌-◌, ◌^◌, cond, List, leb, length, get_or}
use Prim.Native.Char.{code}
use Rattle.digits.specs.Digits.{value_of}

-- the exact value, in millionths, of at most six digits after the point
unfoldable pub in_six : List ℕ → List ℕ → ℕ
in_six whole fraction = value_of whole * 10 ^ 6 + value_of fraction * 10 ^ (6 - length fraction)

-- what the seventh digit after the point adds
unfoldable pub carry_of : List ℕ → ℕ
carry_of fraction = cond (leb (code "5") (get_or fraction 6 0)) 1 0
