-- What a text of digits with an optional point writes, before anything is rounded.
use Rattle.std.specs.Prelude.{ℕ, ◌+◌, ◌*◌, ◌^◌, ◌≡◌, List, length}
use Rattle.digits.specs.Digits.{value_of}
use Rattle.digits.specs.Sign.{after_sign}
use Rattle.decimal.specs.Point.{before_point, after_point}

-- digits before a point and digits after it are m millionths: with n of them after it, all digits over ten to the n are m over a million
pub record Worth (whole fraction : List ℕ) (m : ℕ) : Type 0 where
  pub equal : m * 10 ^ length fraction ≡ (value_of whole * 10 ^ length fraction + value_of fraction) * 10 ^ 6

-- a text writes m millionths, or as many below zero
abbrev pub Writes : List ℕ → ℕ → Type 0
Writes s = Worth (before_point (after_sign s)) (after_point (after_sign s))
