-- A coordinate as the code works it out: read by its digits as they are written, then raised by the zeros that its value has after them.
use Rattle.std.specs.Prelude.{ℕ, ◌+◌, ◌*◌, ◌-◌, ◌^◌, ◌≤◌, Bool, cond, nat_abs, Err, Ok, Result, ℤ}
use Rattle.ints.specs.Ints.{signed}
use Rattle.formats.specs.Format.{places_of}
use Rattle.formats.specs.declared.Format.{Format}
use Rattle.digits.specs.declared.answers.NumberError.{NumberError}

-- six places at most, before the point and after it
pub record Few (f : Format) : Type 0 where
  pub ahead : f.integers ≤ 6
  pub behind : f.decimals ≤ 6

-- those that were left out at the back, and those that make millionths of it
unfoldable pub zeros_behind : Format → ℕ → ℕ
zeros_behind f written = cond f.trailing (places_of f - written) 0 + (6 - f.decimals)

unfoldable pub raised : Bool → ℕ → Result ℤ NumberError → Result ℤ NumberError
raised minus behind (Err e) = Err e
raised minus behind (Ok z) = Ok (signed minus (nat_abs z * 10 ^ behind))
