-- How far the bytes from 32 to 126 go, on the way to the byte that ends a command: no rule of letters touches those.
use Rattle.std.specs.Prelude.{ℕ, Bool, not, List, leb, eqb}
use Rattle.base.specs.And.{◌and◌}
use Rattle.base.specs.Or.{◌or◌}
use Rattle.text.specs.First.{first}
use Rattle.scan.specs.Permitted.{printable}

-- a byte from 43 to 126: no end of a command is above `*`
unfoldable pub inner : ℕ → Bool
inner b = leb 43 b and leb b 126

unfoldable pub stops : ℕ → ℕ → Bool
stops end b = eqb b end or not (printable b)

-- the first place from `at` on whose byte is the end, or is not from 32 to 126
abbrev pub printable_to : ℕ → List ℕ → ℕ → ℕ
printable_to end = first (stops end)
