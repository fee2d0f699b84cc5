-- Strings of decimal digits and their value. Bytes are numbers: '0' is 48 and '9' is 57.
use Rattle.std.specs.Prelude.{◌≡◌, ℕ, ◌+◌, ◌-◌, ◌*◌, ◌^◌, ◌<◌, min, Bool, true, not, List, [], ◌∷◌, length, nat_le, nat_lt}
use Rattle.std.proofs.Math.Seq.{slice}
use Rattle.base.specs.And.{◌and◌}
use Rattle.text.specs.First.{first}
use Rattle.digits.specs.declared.answers.Digits.{Digits}

unfoldable pub is_digit : ℕ → Bool
is_digit b = nat_le 48 b and nat_le b 57

-- the digit that a byte writes; 10 or more where it writes none
pub record Writes (b d : ℕ) : Type 0 where
  pub digit : is_digit b ≡ nat_lt d 10
  pub worth : d < 10 → d ≡ b - 48

-- the first place from `from` on that holds no digit
abbrev pub past_digits : List ℕ → ℕ → ℕ
past_digits = first (λ b. not (is_digit b))

-- every byte is a digit
unfoldable pub all_digits : List ℕ → Bool
all_digits [] = true
all_digits (b ∷ s) = is_digit b and all_digits s

-- digits alone, one at least
unfoldable pub is_number : List ℕ → Bool
is_number s = nat_le 1 (length s) and all_digits s

-- the first digit counts as often as the power of ten that the digits after it make
unfoldable pub value_of : List ℕ → ℕ
value_of [] = 0
value_of (b ∷ s) = (b - 48) * 10 ^ length s + value_of s

-- the digits of a text from one place on, but none from `to` on: their value, and the place after them
unfoldable pub digits_in : List ℕ → ℕ → ℕ → Digits
digits_in s from to =
    let next : ℕ = min to (past_digits s from) in
    record { value = value_of (slice from next s); next = next }
