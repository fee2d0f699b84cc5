-- The optional sign before a coordinate or a decimal (01, Form): '+' is 43 and '-' is 45.
use Rattle.std.specs.Prelude.{ℕ, ◌+◌, Bool, false, cond, List, [], ◌∷◌, ◌==◌, nat_eq, slice_index}
use Rattle.base.specs.Or.{◌or◌}

abbrev pub is_sign : ℕ → Bool
is_sign b = nat_eq b 43 or nat_eq b 45

unfoldable pub has_minus : List ℕ → Bool
has_minus [] = false
has_minus (b ∷ s) = b == 45

-- what stands after the sign, or all where there is none
unfoldable pub after_sign : List ℕ → List ℕ
after_sign [] = []
after_sign (b ∷ s) = cond (is_sign b) s (b ∷ s)

-- the place after the sign at a place, or that place where there is none
unfoldable pub past_sign : List ℕ → ℕ → ℕ
past_sign s at = cond (is_sign (slice_index s at)) (at + 1) at
