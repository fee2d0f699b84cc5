-- The record that is sought: the first of those in use that a test picks.
use Rattle.std.specs.Prelude.{ℕ, zero, suc, Bool, true, false, Ok, Result}

-- the first of the n records from i on that the test picks, else another answer
unfoldable pub first_of : (ℕ → Bool) → ℕ → ℕ → Result ℕ ℕ → Result ℕ ℕ
first_of is i zero other = other
first_of is i (suc n) other = elim (is i) [ true ↦ Ok i | false ↦ first_of is (suc i) n other ]
