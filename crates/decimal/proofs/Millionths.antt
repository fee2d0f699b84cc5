-- How large digits are in millionths.
-- Assumes nothing.
use Prim.Native.Nat.{ℕ, ◌+◌, ◌*◌, ◌-◌, ◌^◌, ◌≤◌, ◌<◌}
use mathlib.Core.Path.{◌≡◌, sym, ap, ◌∙◌}
use mathlib.Core.Bool.{true}
use mathlib.Core.List.{List}
use native.Mathlib.Nat.{one-le-pow, mul-lt-mul_of_pos_right}
use native.Mathlib.Omega.{arith}
use lib.ListN.{length}
use lib.Pow.{pow-add}
use Rattle.digits.specs.Digits.{all_digits, value_of}
use Rattle.digits.proofs.Strings.{value_bound, bound_at}
use Rattle.decimal.specs.Kept.{in_six}

-- j digits after a point, in millionths
pub scaled : (v j : ℕ) → v < 10 ^ j → j ≤ 6 → v * 10 ^ (6 - j) < 10 ^ 6
scaled v j h k =
    let e : j + (6 - j) ≡ 6 = omega arith in
    let q : 10 ^ j * 10 ^ (6 - j) ≡ 10 ^ 6 = sym (pow-add 10 j (6 - j)) ∙ ap (λ (n : ℕ). 10 ^ n) e in
    omega (arith, q, mul-lt-mul_of_pos_right h (one-le-pow (6 - j) 10 (omega arith)))

-- at most six digits before the point and six after it are below 10 ^ 12 millionths
module _ (whole fraction : List ℕ) (dw : all_digits whole ≡ true) (lw : length whole ≤ 6) (df : all_digits fraction ≡ true) (lf : length fraction ≤ 6) where
  pub whole_bound : value_of whole < 10 ^ 6
  whole_bound = bound_at _ (length whole) 6 (value_bound whole dw) lw

  pub fraction_bound : value_of fraction * 10 ^ (6 - length fraction) < 10 ^ 6
  fraction_bound = scaled _ (length fraction) (value_bound fraction df) lf

  pub six_bound : in_six whole fraction < 10 ^ 12
  unfolding in_six
  six_bound = omega (arith, whole_bound, fraction_bound)
