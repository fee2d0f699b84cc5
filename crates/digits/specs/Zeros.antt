-- Zeros that do not count (01, Form: "after dropping leading zeros", "after dropping trailing zeros"; decision 40): '0' is 48.
use Rattle.std.specs.Prelude.{ℕ, List, nat_eq}
use Rattle.base.specs.Trimmed.{drop_leading, drop_trailing}

abbrev pub drop_leading_zeros : List ℕ → List ℕ
drop_leading_zeros = drop_leading (λ b. nat_eq b 48)

abbrev pub drop_trailing_zeros : List ℕ → List ℕ
drop_trailing_zeros = drop_trailing (λ b. nat_eq b 48)
