-- The number of each case of the answer, and its values: bytes, changes, unit and rounded decimals, 0 where mending is refused
-- (02, [13]; decision 451). The place of every refusal is 0.
use Rattle.std.specs.Prelude.{ℕ, Err, Ok, Result}
use Rattle.mend_call.specs.declared.Mended.{Mended}

unfoldable pub number_of : Result Mended ℕ → ℕ
number_of (Ok m) = 0
number_of (Err number) = number

unfoldable pub bytes_of : Result Mended ℕ → ℕ
bytes_of (Ok m) = m.bytes
bytes_of (Err number) = 0

unfoldable pub changes_of : Result Mended ℕ → ℕ
changes_of (Ok m) = m.changes
changes_of (Err number) = 0

unfoldable pub unit_of : Result Mended ℕ → ℕ
unit_of (Ok m) = m.unit
unit_of (Err number) = 0

unfoldable pub rounded_of : Result Mended ℕ → ℕ
rounded_of (Ok m) = m.rounded
rounded_of (Err number) = 0
